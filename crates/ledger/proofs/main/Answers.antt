use mathlib.Core.Path.{sym}
use lib.Seq.{length-take-le}
use Rattle.ledger_text.proofs.Answers.{input_within}
use Rattle.ledger.proofs.main.Goals as goal

pub slice_bounds-text-end : goal.slice_bounds-text-end
slice_bounds-text-end c = input_within c.report_input.ensures c.in-Ok.count c.in-Ok.is

pub slice_bounds-write_all-end : goal.slice_bounds-write_all-end
slice_bounds-write_all-end c = sym (length-take-le _ _ (input_within c.report_input.ensures c.in-Ok.count c.in-Ok.is))
