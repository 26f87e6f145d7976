use mathlib.Core.Path.{refl}
use Rattle.step_table.specs.Table.{step_table}
use Rattle.step_table.proofs.steps.Goals as goal

pub returns : goal.returns
unfolding step_table
returns c = refl
