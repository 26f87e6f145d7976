-- CR 5, computed: which bits make a word no instruction, the order in which the next instruction is judged, and a halting word's read.
use Prim.Native.Nat.{ℕ, ◌^◌}
use mathlib.Core.Path.{◌≡◌, refl}
use mathlib.Core.Bool.{Bool, true, false}
use mathlib.Core.List.{List, [], ◌∷◌, ◌++◌, map}
use lib.ListN.{replicate}
use Rattle.model.specs.declared.GateState.{GateState}
use Rattle.model.specs.declared.Ending.{Ending}
use Rattle.model.specs.declared.Ending.TheVariants.{Finished, Outside, NoInstruction}
use Rattle.model.specs.Words.{field, bit, is_instruction}
use Rattle.model.specs.Operands.{operand_a, operand_b}
use Rattle.model.specs.Waits.{wait_at, next_position}
use Rattle.model.specs.Board.{board_with}
use Rattle.model.specs.Interpreter.{machine_with, next_ending}
use Rattle.model.specs.GateMachine.{Gate, gate, at_rest, with_row, with_instruction, with_access, work, is_access, remaining, position_now, work_or_wait, clock, gate_run}
use Rattle.model.specs.Packed.{no_flags}
use Rattle.model.specs.Agreement.{gate_from}

-- bits 0 to 31, each set alone
alone : List Bool
alone =
    map (λ (i : ℕ). is_instruction (2 ^ i))
    (0 ∷ 1 ∷ 2 ∷ 3 ∷ 4 ∷ 5 ∷ 6 ∷ 7 ∷ 8 ∷ 9 ∷ 10 ∷ 11 ∷ 12 ∷ 13 ∷ 14 ∷ 15 ∷ 16 ∷ 17 ∷ 18 ∷ 19 ∷ 20 ∷ 21 ∷ 22 ∷ 23 ∷ 24 ∷ 25 ∷ 26 ∷ 27 ∷ 28 ∷ 29 ∷ 30 ∷ 31 ∷ [])

-- 0 to 13 and 15 to 19 belong to an instruction, 14 and 20 to 31 to none
each_bit : alone ≡ replicate 14 true ++ false ∷ replicate 5 true ++ replicate 12 false
unfolding alone field bit is_instruction
each_bit = refl

-- all nineteen at once, and no bit
whole : map is_instruction (0x000F_BFFF ∷ 0 ∷ []) ≡ true ∷ true ∷ []
unfolding field bit is_instruction
whole = refl

-- the next instruction at address 0 of a memory; the other registers are 9, which is missing
abbrev ending_in : List ℕ → Ending
ending_in memory = next_ending memory (machine_with (0 ∷ replicate 7 9) no_flags)

-- it runs; its A is missing; no instruction; no instruction, where A would be missing; its own address is missing
endings : map ending_in ((0 ∷ []) ∷ (0x9 ∷ []) ∷ (0x4000 ∷ []) ∷ (0x4009 ∷ []) ∷ [] ∷ []) ≡ Finished ∷ Outside ∷ NoInstruction ∷ NoInstruction ∷ Outside ∷ []
unfolding field bit is_instruction operand_a operand_b
endings = refl

-- k clocks from row 0 on a memory of one halting word, whose read waits one clock
abbrev start : GateState
start = at_rest (replicate 8 0) no_flags

after : ℕ → Gate
after k = gate_run (board_with 0 (1 ∷ 7 ∷ [])) [] k (gate_from start (0x4000 ∷ []))

-- row 0, the read, its wait; then row 12 with the word latched, at the list's second entry, and nothing more
halting-read : map after (2 ∷ 3 ∷ 4 ∷ 9 ∷ [])
    ≡ gate (with_row 1 (with_access 1 true 1 start)) (0x4000 ∷ []) 0
    ∷ replicate 3 (gate (with_row 12 (with_instruction 0x4000 (with_access 1 false 0 start))) (0x4000 ∷ []) 0)
unfolding after field bit is_instruction wait_at next_position work is_access remaining position_now work_or_wait clock gate_run
halting-read = refl
