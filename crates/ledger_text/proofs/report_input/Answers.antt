use mathlib.Core.Path.{refl, ap, ◌∙◌}
use Rattle.std.proofs.Common.{ℕ, take}
use Rattle.std.proofs.lemmas.List.{take_min}
use Rattle.ledger_text.specs.Report.{most_input}
use Rattle.ledger_text.proofs.Answers.{input_reported}
use Rattle.ledger_text.proofs.report_input.Goals as goal

pub returns : goal.returns
returns c =
    let input = c.args.input.now in
    input_reported c.report.ensures input (ap (λ (n : ℕ). take n input) c.min-size.ensures ∙ take_min most_input input) refl
