use mathlib.Core.Path.{◌∙◌}
use Rattle.gate_rows.proofs.row.read_instruction.Goals as goal

pub returns-then-is_instruction : goal.returns-then-is_instruction
returns-then-is_instruction c = λ regs. c.with_instruction.ensures regs ∙ rw (← c.is_instruction.ensures, c.if-is_instruction.true)

pub returns : goal.returns
returns c = λ regs. c.with_instruction-2.ensures regs ∙ rw (← c.is_instruction.ensures, c.if-is_instruction.false)
