-- CR 11, computed: stores to words 5 and 4 and again to 5, then one to a missing word, with room for no pair, one and two.
use Prim.Native.Nat.{ℕ}
use mathlib.Core.Path.{◌≡◌, refl}
use mathlib.Core.Bool.{Bool, true, false}
use mathlib.Core.List.{List, [], ◌∷◌, map}
use Rattle.arithmetic.specs.Alu.{answers, alu_at, alu_of}
use Rattle.model.specs.Words.{field, bit, is_instruction}
use Rattle.model.specs.Operands.{operand_a, operand_b}
use Rattle.model.specs.Alu.{is_move, operation, alu, flags_after, stores}
use Rattle.model.specs.Waits.{wait_at, next_position, wait_sum, position_after}
use Rattle.model.specs.Board.{board_with}
use Rattle.model.specs.Interpreter.{machine_with, Run, begin, execute, stop, advance}
use Rattle.model.specs.Journal.{stored_by, has_pair, noting, within, run_one, run_noted, fresh, journal_words}
use Rattle.model.specs.Packed.{no_flags}

-- r1 is moved to the words at r2 and r3, and r4 to those at r2 and r5
abbrev storing : Run
storing = begin (machine_with (0 ∷ 71 ∷ 5 ∷ 4 ∷ 74 ∷ 6 ∷ 0 ∷ 0 ∷ []) no_flags) (0x141 ∷ 0x161 ∷ 0x144 ∷ 0x1A4 ∷ 8 ∷ 9 ∷ []) 0

record Left : Type 0 where
  full : Bool
  ran : ℕ
  journal : List ℕ

leaves : (room : ℕ) → Left
leaves room =
    let k = run_noted (board_with 0 []) room 4 (fresh storing []) in
    record { full = k.full; ran = k.run.ran; journal = journal_words k.pairs }

abbrev left : (full : Bool) (ran : ℕ) (journal : List ℕ) → Left
left full ran journal = record { full = full; ran = ran; journal = journal }

-- Full exactly at the first address for which there is no pair. One pair for each address, with the word before its first store, in order of
-- first stores; where a word is missing the journal is not full, though one pair more would be needed.
notes : map leaves (0 ∷ 1 ∷ 2 ∷ []) ≡ left true 0 [] ∷ left true 1 (5 ∷ 9 ∷ []) ∷ left false 3 (5 ∷ 9 ∷ 4 ∷ 8 ∷ []) ∷ []
unfolding leaves field bit is_instruction operand_a operand_b is_move operation alu flags_after stores alu_of alu_at answers wait_at next_position wait_sum position_after execute stop advance stored_by has_pair noting within run_one run_noted journal_words
notes = refl
