use mathlib.Core.Path.{◌∙◌}
use Rattle.model.specs.Alu.{alu}
use Rattle.step.proofs.unit.unit_of.Goals as goal

pub returns : goal.returns
unfolding alu
returns c = c.word_unit.ensures ∙ rw (c.unit_operation.ensures, c.carry.ensures)
