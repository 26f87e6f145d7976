-- CR 6, computed: stores at, above and below the bottom of memory in both engines, a read below it, and which bottoms fit.
use Rattle.std.specs.Prelude.{Ok, Err}
use Prim.Native.Nat.{ℕ}
use mathlib.Core.Path.{◌≡◌, refl}
use mathlib.Core.Bool.{Bool, true, false}
use mathlib.Core.List.{List, [], ◌∷◌, map}
use lib.ListN.{replicate}
use Rattle.arithmetic.specs.Alu.{answers, alu_at, alu_of}
use Rattle.model.specs.declared.GateState.{GateState}
use Rattle.model.specs.declared.Refusal.TheVariants.{NoWords, BottomTooHigh}
use Rattle.model.specs.Words.{field, bit, is_instruction}
use Rattle.model.specs.Operands.{operand_a, operand_b}
use Rattle.model.specs.Alu.{is_move, operation, alu, flags_after, stores}
use Rattle.model.specs.Waits.{wait_at, next_position, position_fits, wait_sum, position_after}
use Rattle.model.specs.Board.{Board, board_with}
use Rattle.model.specs.Interpreter.{machine_with, Run, begin, execute, advance, interpret}
use Rattle.model.specs.Journal.{stored_by, journal_pairs, journal_words}
use Rattle.model.specs.GateMachine.{Gate, gate, state_with, at_rest, work, is_access, remaining, position_now, work_or_wait, clock, gate_run}
use Rattle.model.specs.Packed.{no_flags}
use Rattle.model.specs.Agreement.{gate_from}
use Rattle.model.specs.Refusals.{run_verdict, Verdict}
use Rattle.model.specs.Bottom.{never, never_stores_below, no_clock_stores_below}

-- r2, which is 5, is moved to word 1, which is 7; the accesses are the fetch, B's read and the store
abbrev regs : List ℕ
regs = 0 ∷ 1 ∷ 5 ∷ replicate 5 0

abbrev moves : Run
moves = begin (machine_with regs no_flags) (0x122 ∷ 7 ∷ []) 0

abbrev waiting : (bottom : ℕ) → Board
waiting bottom = board_with bottom (1 ∷ 2 ∷ 4 ∷ 8 ∷ [])

record Left : Type 0 where
  memory : List ℕ
  position : ℕ
  clocks : ℕ
  journal : List ℕ

leaves : (bottom : ℕ) → Left
leaves bottom =
    let r = interpret (waiting bottom) 1 moves in
    record {
      memory = r.memory;
      position = r.position;
      clocks = r.clocks;
      journal = journal_words (journal_pairs (waiting bottom) 1 moves);
    }

-- below, at and above: a store below costs its clock and its wait and uses up its entry, alters nothing and is not journaled
abbrev left : (memory journal : List ℕ) → Left
left memory journal = record { memory = memory; position = 3; clocks = 17; journal = journal }

run-stores : map leaves (0 ∷ 1 ∷ 2 ∷ []) ≡ left (0x122 ∷ 5 ∷ []) (1 ∷ 7 ∷ []) ∷ left (0x122 ∷ 5 ∷ []) (1 ∷ 7 ∷ []) ∷ left (0x122 ∷ 7 ∷ []) [] ∷ []
unfolding leaves field bit is_instruction operand_a operand_b is_move operation alu flags_after stores alu_of alu_at answers wait_at next_position wait_sum position_after execute advance interpret stored_by journal_pairs journal_words
run-stores = refl

-- the gate machine on the clock before the store completes, on that clock, and at the total
abbrev clocked : (bottom k : ℕ) → Gate
clocked bottom k = gate_run (waiting bottom) [] k (gate_from (at_rest regs no_flags) (0x122 ∷ 7 ∷ []))

-- the state after that many clocks: the row, its position in the list, whether an access has begun and its clocks left
abbrev at : (row r0 position : ℕ) → (begun : Bool) → (left : ℕ) → GateState
at row r0 position begun left = state_with (r0 ∷ 1 ∷ 5 ∷ replicate 5 0) no_flags row 0x122 1 5 7 5 position begun left

gate-stores-at : map (clocked 1) (14 ∷ 15 ∷ 17 ∷ [])
    ≡ gate (at 9 1 3 true 1) (0x122 ∷ 7 ∷ []) 0 ∷ gate (at 10 1 3 false 0) (0x122 ∷ 5 ∷ []) 0 ∷ gate (at 0 1 3 false 0) (0x122 ∷ 5 ∷ []) 1 ∷ []
unfolding field bit is_instruction operand_a operand_b is_move operation alu flags_after stores alu_of alu_at answers wait_at next_position work is_access remaining position_now work_or_wait clock gate_run
gate-stores-at = refl

gate-stores-below : map (clocked 2) (14 ∷ 15 ∷ 17 ∷ [])
    ≡ gate (at 9 1 3 true 1) (0x122 ∷ 7 ∷ []) 0 ∷ gate (at 10 1 3 false 0) (0x122 ∷ 7 ∷ []) 0 ∷ gate (at 0 1 3 false 0) (0x122 ∷ 7 ∷ []) 1 ∷ []
unfolding field bit is_instruction operand_a operand_b is_move operation alu flags_after stores alu_of alu_at answers wait_at next_position work is_access remaining position_now work_or_wait clock gate_run
gate-stores-below = refl

-- word 1 is moved to r2, in ten clocks: a word below the bottom is read as ever
abbrev read : List ℕ
read = 1 ∷ 1 ∷ 7 ∷ replicate 5 0

reads-below : (interpret (board_with 2 []) 1 (begin (machine_with regs no_flags) (0x49 ∷ 7 ∷ []) 0)).machine.regs ≡ read
unfolding field bit is_instruction operand_a operand_b is_move operation alu flags_after stores alu_of alu_at answers execute advance interpret
reads-below = refl

gate-reads-below : (gate_run (board_with 2 []) [] 10 (gate_from (at_rest regs no_flags) (0x49 ∷ 7 ∷ []))).state.regs ≡ read
unfolding field bit is_instruction operand_a operand_b is_move operation alu flags_after stores alu_of alu_at answers wait_at next_position work is_access remaining position_now work_or_wait clock gate_run
gate-reads-below = refl

-- the store to word 1 is below a bottom of 2, in instructions and in clocks
never-below : map (λ (bottom : ℕ). never_stores_below bottom (waiting bottom) 1 moves) (0 ∷ 1 ∷ 2 ∷ []) ≡ true ∷ true ∷ false ∷ []
unfolding never field bit is_instruction operand_a operand_b is_move operation stores interpret
never-below = refl

no-clock : map (λ (k : ℕ). no_clock_stores_below 2 (waiting 2) [] k (gate_from (at_rest regs no_flags) (0x122 ∷ 7 ∷ []))) (14 ∷ 15 ∷ []) ≡ true ∷ false ∷ []
unfolding never field bit is_instruction operand_a operand_b is_move operation alu flags_after stores alu_of alu_at answers wait_at next_position work is_access remaining position_now work_or_wait clock gate_run
no-clock = refl

-- the whole memory may be the bottom, one more may not; a memory of no words comes first
judged : (memory : List ℕ) → (bottom : ℕ) → Verdict
judged memory bottom = run_verdict memory (board_with bottom []) 0

fits : map (judged (0 ∷ 0 ∷ [])) (0 ∷ 2 ∷ 3 ∷ []) ≡ Ok tt ∷ Ok tt ∷ Err BottomTooHigh ∷ []
unfolding judged position_fits run_verdict
fits = refl

words-first : judged [] 1 ≡ Err NoWords
unfolding judged run_verdict
words-first = refl
