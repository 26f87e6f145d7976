-- Document 01's example of "The ledger program": two words, registers and flags 0; and what bad images print. antt computes the texts.
use mathlib.Core.Path.{◌≡◌, refl}
use mathlib.Core.List.{[], ◌∷◌}
use Rattle.arithmetic.specs.Words.{signed_of, leaves}
use Rattle.arithmetic.specs.Alu.{sum_of, difference_of, halved_of, answers, alu_at, alu_of}
use Rattle.model.specs.declared.Refusal.TheVariants.{CutImage, TrailingBytes}
use Rattle.model.specs.Words.{field, bit, is_instruction}
use Rattle.model.specs.Operands.{operand_a, operand_b}
use Rattle.model.specs.Alu.{is_move, operation, alu, flags_after, stores}
use Rattle.model.specs.Waits.{wait_at, next_position, wait_sum, position_after}
use Rattle.model.specs.Interpreter.{begin, execute, stop, advance, interpret}
use Rattle.image.specs.Calls.{cleared_machine}
use Rattle.text.specs.Text.{letters, digits, digit_count}
use Rattle.ledger_lines.specs.Lines.{heading, line, line_between, lines, ending_text, run_text, refused_text}

example : run_text (begin cleared_machine (0x0001_0021 ∷ 0x0005_0421 ∷ []) 0)
    ≡ letters "step pc word clocks cvnz\n1 00000000 00010021 9 0000\n2 00000001 00050421 9 0001\noutside 2 18\n"
unfolding field bit is_instruction operand_a operand_b signed_of leaves sum_of difference_of halved_of answers alu_at alu_of is_move operation alu flags_after stores wait_at next_position wait_sum position_after execute stop advance interpret digits digit_count heading line line_between lines ending_text run_text
example = refl

-- CR 5: the second word has bit 14 set
halted : run_text (begin cleared_machine (0x0001_0021 ∷ 0x0001_4021 ∷ []) 0)
    ≡ letters "step pc word clocks cvnz\n1 00000000 00010021 9 0000\nhalted 1 9\n"
unfolding field bit is_instruction operand_a operand_b signed_of leaves sum_of difference_of halved_of answers alu_at alu_of is_move operation alu flags_after stores wait_at next_position wait_sum position_after execute stop advance interpret digits digit_count heading line line_between lines ending_text run_text
halted = refl

cut-image : refused_text CutImage ≡ letters "refused 8\n"
unfolding digits digit_count refused_text
cut-image = refl

trailing : refused_text TrailingBytes ≡ letters "refused 15\n"
unfolding digits digit_count refused_text
trailing = refl
