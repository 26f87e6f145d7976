-- No generated case fails: antt computes the definitions.
use mathlib.Core.Path.{◌≡◌, refl}
use mathlib.Core.List.{[]}
use Rattle.arithmetic.specs.Words.{signed_of, leaves}
use Rattle.arithmetic.specs.Alu.{sum_of, difference_of, halved_of, answers, alu_at, alu_of}
use Rattle.model.specs.Words.{field, bit, is_instruction}
use Rattle.model.specs.Operands.{operand_a, operand_b}
use Rattle.model.specs.Alu.{is_move, operation, alu, flags_after, stores}
use Rattle.model.specs.Waits.{wait_at, next_position, position_fits, wait_sum, position_after}
use Rattle.model.specs.Interpreter.{execute, stop, advance, interpret}
use Rattle.model.specs.Journal.{stored_by, has_pair, noting, within, run_one, run_noted, journal_words}
use Rattle.model.specs.GateMachine.{work, is_access, remaining, position_now, work_or_wait, clock, gate_run}
use Rattle.model.specs.Packed.{packed_of, flags_of, latch_words}
use Rattle.model.specs.Refusals.{run_verdict, gate_verdict}
use Rattle.definition_cases.specs.Shape.{run_holds, gate_holds, verdict_holds, start_holds, failures}
use Rattle.definition_cases.specs.Cases.{run_cases, gate_cases, verdict_cases, start_cases}

pub runs : failures run_holds 0 run_cases ≡ []
unfolding field bit is_instruction packed_of flags_of operand_a operand_b signed_of leaves sum_of difference_of halved_of answers alu_at alu_of is_move operation alu flags_after stores wait_at next_position wait_sum position_after execute stop advance interpret stored_by has_pair noting within run_one run_noted journal_words
runs = refl

pub gates : failures gate_holds 0 gate_cases ≡ []
unfolding field bit is_instruction packed_of flags_of latch_words operand_a operand_b signed_of leaves sum_of difference_of halved_of answers alu_at alu_of is_move operation alu flags_after stores wait_at next_position work is_access remaining position_now work_or_wait clock gate_run
gates = refl

pub verdicts : failures verdict_holds 0 verdict_cases ≡ []
unfolding flags_of is_access position_fits gate_verdict
verdicts = refl

pub starts : failures start_holds 0 start_cases ≡ []
unfolding position_fits run_verdict
starts = refl
