use Rattle.std.proofs.Common.{ℕ, List, ap, ◌∙◌}
use Rattle.host_reading.specs.Layout.{three_places}
use Rattle.host_words.specs.Words.{laid}
use Rattle.host_calls.specs.Codes.{traverse_code}
use Rattle.host_ends.proofs.Ends.{ends-refused, not-finished, traverse-ended}
use Rattle.host_ends.proofs.end_traverse.Goals as goal

pub returns-in-Err : goal.returns-in-Err
returns-in-Err c = ends-refused _ _ _ _ _ _ _ _ not-finished c.in-Err.why (ap traverse_code c.in-Err.is) _ c.refusal_number.ensures

pub returns-in-Ok : goal.returns-in-Ok
returns-in-Ok c = traverse-ended _ _ _ _ _ _ c.in-Ok.is _ c.end_files.ensures.code c.end_files.ensures.parts (c.put_result.ensures ∙ ap (λ (xs : List ℕ). laid three_places xs c.args.res.now) c.traverse_places.ensures)
