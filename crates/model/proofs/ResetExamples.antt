-- CR 7, computed: what a reset clock changes and what it leaves, in every part of an instruction, out of row 12 and from an address that is
-- never acknowledged; which lists rise; and a run that goes on from where the reset left it.
use Rattle.std.specs.Prelude.{Ok, Err}
use Prim.Native.Nat.{ℕ, ◌+◌}
use mathlib.Core.Path.{◌≡◌, refl}
use mathlib.Core.Bool.{Bool, true, false}
use mathlib.Core.List.{List, [], ◌∷◌, map}
use lib.ListN.{replicate}
use Rattle.arithmetic.specs.Alu.{answers, alu_at, alu_of}
use Rattle.model.specs.declared.Flags.{Flags}
use Rattle.model.specs.declared.GateState.{GateState}
use Rattle.model.specs.declared.Refusal.TheVariants.{BottomTooHigh, BadGateState, ResetsNotRising}
use Rattle.model.specs.Words.{field, bit, is_instruction}
use Rattle.model.specs.Operands.{operand_a, operand_b}
use Rattle.model.specs.Alu.{is_move, operation, alu, flags_after, stores}
use Rattle.model.specs.Waits.{wait_at, next_position, position_fits, wait_sum, position_after}
use Rattle.model.specs.Board.{Board, board_with}
use Rattle.model.specs.Resets.{rises, resets_below, resets_from, resets_then}
use Rattle.model.specs.Interpreter.{Run, execute, advance, interpret}
use Rattle.model.specs.GateMachine.{Gate, gate, state_with, with_row, work, is_access, remaining, position_now, work_or_wait, clock, gate_run}
use Rattle.model.specs.Packed.{flags_of}
use Rattle.model.specs.Refusals.{run_verdict, gate_verdict, Verdict}
use Rattle.model.specs.Agreement.{gate_from, interpreter_from, interpreter_mark, gate_mark}

-- ---- one instruction, cut on each of its clocks

-- word 2 moves r2 to word 1, which r1 points at, in 16 clocks: a fetch with wait 2, a read of B with wait 1, a store with wait 3. The latches
-- hold other words before, and C is set
abbrev board : Board
board = board_with 0 (2 ∷ 1 ∷ 3 ∷ [])

carry : Flags
carry = flags_of 8

abbrev regs : (r0 : ℕ) → List ℕ
regs r0 = r0 ∷ 1 ∷ 5 ∷ replicate 5 9

abbrev memory : (word : ℕ) → List ℕ
memory word = 0 ∷ word ∷ 0x122 ∷ []

abbrev start : GateState
start = state_with (regs 2) carry 0 21 22 23 24 25 0 false 0

abbrev after : (resets : List ℕ) → (clocks : ℕ) → Gate
after resets clocks = gate_run board resets clocks (gate_from start (memory 7))

-- reset on clock c, the last one
abbrev cut : (c : ℕ) → Gate
cut c = after (c ∷ []) (c + 1)

-- in row 0 with r0 at 0 and no access begun
abbrev idle : (instruction address a b result position word finished : ℕ) → Gate
idle instruction address a b result position word finished =
    gate (state_with (regs 0) carry 0 instruction address a b result position false 0) (memory word) finished

-- before the fetch; on its first clock, which takes no entry; in its wait, whose entry is used up; on the clock that would complete it
fetch-cut : map cut (0 ∷ 1 ∷ 2 ∷ 3 ∷ []) ≡ idle 21 22 23 24 25 0 7 0 ∷ idle 21 2 23 24 25 0 7 0 ∷ idle 21 2 23 24 25 1 7 0 ∷ idle 21 2 23 24 25 1 7 0 ∷ []
unfolding carry flags_of field bit is_instruction wait_at next_position work is_access remaining position_now work_or_wait clock gate_run
fetch-cut = refl

-- in rows 2, 3 and 5, on the first clock and the last of the read of B, in row 7
read-cut : map cut (4 ∷ 5 ∷ 6 ∷ 7 ∷ 8 ∷ 9 ∷ [])
    ≡ idle 0x122 2 23 24 25 1 7 0 ∷ idle 0x122 2 23 24 25 1 7 0 ∷ idle 0x122 2 5 24 25 1 7 0 ∷ idle 0x122 1 5 24 25 1 7 0 ∷ idle 0x122 1 5 24 25 2 7 0
    ∷ idle 0x122 1 5 7 25 2 7 0 ∷ []
unfolding carry flags_of field bit is_instruction operand_a operand_b wait_at next_position work is_access remaining position_now work_or_wait clock gate_run
read-cut = refl

-- on the store's first clock, in its wait and on the clock that would complete it: nothing is stored; in rows 10 and 11: it is stored, and
-- the instruction is not counted; on the clock after it: counted
store-cut : map cut (10 ∷ 11 ∷ 12 ∷ 13 ∷ 14 ∷ 15 ∷ 16 ∷ [])
    ≡ idle 0x122 1 5 7 5 2 7 0 ∷ idle 0x122 1 5 7 5 0 7 0 ∷ idle 0x122 1 5 7 5 0 7 0 ∷ idle 0x122 1 5 7 5 0 7 0 ∷ idle 0x122 1 5 7 5 0 5 0 ∷ idle 0x122 1 5 7 5 0 5 0
    ∷ idle 0x122 1 5 7 5 0 5 1 ∷ []
unfolding carry flags_of field bit is_instruction operand_a operand_b is_move operation alu flags_after stores alu_of alu_at answers wait_at next_position work is_access remaining position_now work_or_wait clock gate_run
store-cut = refl

-- ---- the list

-- numbers at or past the clocks of the run have no effect; several in a row leave what the first left
no-effect : map (λ (resets : List ℕ). after resets 3) ((3 ∷ []) ∷ (3 ∷ 4 ∷ 90 ∷ []) ∷ []) ≡ replicate 2 (after [] 3)
unfolding carry flags_of field bit is_instruction wait_at next_position work is_access remaining position_now work_or_wait clock gate_run
no-effect = refl

in_a_row : after (2 ∷ 3 ∷ 4 ∷ []) 5 ≡ cut 2
unfolding carry flags_of field bit is_instruction wait_at next_position work is_access remaining position_now work_or_wait clock gate_run
in_a_row = refl

rising : map rises ([] ∷ (5 ∷ []) ∷ (0 ∷ 1 ∷ 9 ∷ []) ∷ (0 ∷ 0 ∷ []) ∷ (1 ∷ 2 ∷ 0 ∷ []) ∷ []) ≡ true ∷ true ∷ true ∷ false ∷ false ∷ []
rising = refl

-- clocks 0 to 2 with one list, and those from 3 on with another
parts : resets_below 3 (1 ∷ 3 ∷ 7 ∷ []) ∷ resets_from 3 (1 ∷ 3 ∷ 7 ∷ []) ∷ resets_then 3 (1 ∷ 3 ∷ 7 ∷ []) (0 ∷ 5 ∷ []) ∷ []
    ≡ (1 ∷ []) ∷ (0 ∷ 4 ∷ []) ∷ (1 ∷ 3 ∷ 8 ∷ []) ∷ []
unfolding resets_below resets_from resets_then
parts = refl

-- ---- a machine that stands comes free

-- halted in row 12; at a fetch, and at a store with its access begun, of an address that is not there
abbrev freed : (row address left : ℕ) → (begun : Bool) → Gate
freed row address left begun = gate_run board (4 ∷ []) 5 (gate_from (state_with (regs 2) carry row 21 address 23 24 25 1 begun left) (memory 7))

comes-free : freed 12 22 0 false ∷ freed 1 3 0 false ∷ freed 9 3 2 true ∷ []
    ≡ idle 21 22 23 24 25 1 7 0 ∷ idle 21 3 23 24 25 1 7 0 ∷ idle 21 3 23 24 25 1 7 0 ∷ []
unfolding carry flags_of field bit is_instruction wait_at next_position work is_access remaining position_now work_or_wait clock gate_run
comes-free = refl

-- ---- reasons

-- 21 before 22, 22 before 4; 22 of numbers past the clocks too; 4 of a position past the list
judged : (bottom row : ℕ) → (resets : List ℕ) → Verdict
judged bottom row resets = gate_verdict (memory 7) (board_with bottom (2 ∷ [])) resets (with_row row start)

order : judged 4 13 (1 ∷ 1 ∷ []) ∷ judged 0 13 (1 ∷ 1 ∷ []) ∷ judged 0 13 (1 ∷ 2 ∷ []) ∷ judged 0 12 (1 ∷ 2 ∷ []) ∷ []
    ≡ Err BottomTooHigh ∷ Err ResetsNotRising ∷ Err BadGateState ∷ Ok tt ∷ []
unfolding judged carry is_access position_fits gate_verdict
order = refl

positions : map (run_verdict (memory 7) (board_with 0 (2 ∷ []))) (0 ∷ 1 ∷ []) ≡ Ok tt ∷ Err BadGateState ∷ []
unfolding position_fits run_verdict
positions = refl

-- ---- going on from a reset

-- reset cuts the fetch of word 2 in its wait, on clock 2; word 0 then moves r1 to r0, in 9 clocks and the wait of the list's second entry
abbrev whole : (clocks : ℕ) → Gate
whole clocks = gate_run board (2 ∷ []) clocks (gate_from start (0x1 ∷ 0 ∷ 0x122 ∷ []))

abbrev restarted : Run
restarted = interpret board 1 (interpreter_from (whole 3).state (whole 3).memory)

-- the interpreter's total is 10, and so many clocks after the reset clock, not counting it, the marks are equal; one clock before they are not
in_step : (restarted.clocks ≡ 10) × (gate_mark (whole 13) ≡ interpreter_mark restarted) × ((whole 12).state.row ≡ 11)
unfolding carry flags_of field bit is_instruction operand_a operand_b is_move operation alu flags_after stores alu_of alu_at answers wait_at next_position wait_sum position_after execute advance interpret work is_access remaining position_now work_or_wait clock gate_run
in_step = (refl, refl, refl)
