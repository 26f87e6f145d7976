use Rattle.arithmetic.specs.Alu.{answers, alu_at, alu_of}
use Rattle.model.specs.Alu.{alu}
use Rattle.gate_rows.proofs.compute.unit_of.Goals as goal

pub returns-then-is_move : goal.returns-then-is_move
unfolding alu alu_of alu_at answers
returns-then-is_move c = rw (← c.is_move.ensures, c.if-is_move.true) c.answer.ensures

pub returns : goal.returns
unfolding alu
returns c = rw (← c.unit_operation.ensures) c.gate_unit.ensures
