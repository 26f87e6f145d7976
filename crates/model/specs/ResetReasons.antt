-- CR 7: where the new reasons come in. 22 directly after 3, before 4, and 4 last for the interpreter's list position.
use Rattle.std.specs.Prelude.{ℕ, ◌≡◌, true, false, List, Ok, Err}
use Rattle.model.specs.declared.GateState.{GateState}
use Rattle.model.specs.declared.Refusal.TheVariants.{LongWaitList, ResetsNotRising}
use Rattle.model.specs.Board.{Board}
use Rattle.model.specs.Resets.{rises}
use Rattle.model.specs.Refusals.{memory_fits, bottom_fits, waits_fit, start_fits, state_fits, run_verdict, gate_verdict}

-- what is looked at before the lists
pub record MemoryTaken (memory : List ℕ) (board : Board) : Type 0 where
  pub words : memory_fits memory ≡ Ok tt
  pub bottom : bottom_fits memory board.bottom ≡ Ok tt

-- 3, whatever the resets, the state and the position
pub record TurnedDown (memory : List ℕ) (board : Board) : Type 0 where
  pub gate : (resets : List ℕ) (s : GateState) → gate_verdict memory board resets s ≡ Err LongWaitList
  pub run : (position : ℕ) → run_verdict memory board position ≡ Err LongWaitList

abbrev pub WaitsFirst : Type 0
WaitsFirst = (memory : List ℕ) (board : Board) → MemoryTaken memory board → waits_fit board.waits ≡ Err LongWaitList → TurnedDown memory board

-- 22, whatever the state; then 4
abbrev pub ResetsNext : Type 0
ResetsNext =
    (memory : List ℕ) (board : Board) (resets : List ℕ) (s : GateState) → MemoryTaken memory board → waits_fit board.waits ≡ Ok tt
    → rises resets ≡ false → gate_verdict memory board resets s ≡ Err ResetsNotRising

abbrev pub StateLast : Type 0
StateLast =
    (memory : List ℕ) (board : Board) (resets : List ℕ) (s : GateState) → MemoryTaken memory board → waits_fit board.waits ≡ Ok tt
    → rises resets ≡ true → gate_verdict memory board resets s ≡ state_fits board.waits s

-- and of the interpreter 4 for its position, last
abbrev pub PositionLast : Type 0
PositionLast =
    (memory : List ℕ) (board : Board) (position : ℕ) → MemoryTaken memory board → waits_fit board.waits ≡ Ok tt
    → run_verdict memory board position ≡ start_fits board.waits position
