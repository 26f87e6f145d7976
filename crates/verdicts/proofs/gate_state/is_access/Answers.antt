use mathlib.Core.Path.{refl, ap, ◌∙◌}
use native.Mathlib.Omega.{arith}
use Rattle.model.proofs.Clocks.{access-past}
use Rattle.step_table.specs.Table.{marks_access}
use Rattle.step_table.proofs.Table.{step-there, access-mark, is-access}
use Rattle.verdicts.proofs.gate_state.is_access.Goals as goal

pub returns-then-row-le-LAST_ROW : goal.returns-then-row-le-LAST_ROW
returns-then-row-le-LAST_ROW c =
    c.eq.ensures ∙ is-access _
    ∙ ap marks_access (step-there c.steps.ensures refl (omega (arith, c.if-row-le-LAST_ROW.true)) _)
    ∙ access-mark _

pub returns : goal.returns
returns c = access-past _ (omega (arith, c.if-row-le-LAST_ROW.false))
