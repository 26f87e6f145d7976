-- CR 5: a machine in row 12, in the terms of what the gate run and the clock on a lent state return by their contracts. "The gate machine
-- completes the read and enters a row 12, where it stays", until a reset (CR 7).
use Rattle.model.specs.declared.Refusal.{Refusal}
use Rattle.std.specs.Prelude.{ℕ, ◌<◌, ◌≡◌, false, List, Result}
use Rattle.model.specs.declared.GateState.{GateState}
use Rattle.model.specs.Board.{Board}
use Rattle.model.specs.Resets.{is_reset}
use Rattle.gate_machine.specs.declared.GateResult.{GateResult}
use Rattle.gate_machine.specs.Calls.{GateRuns, gate_finished}
use Rattle.lent_clock.specs.Calls.{LentClock}

-- the call was lent `memory` and s, and left `memory'` and s'; f instructions finished in it: nothing changed, and none finished
pub record Unchanged (memory : List ℕ) (s : GateState) (memory' : List ℕ) (s' : GateState) (f : ℕ) : Type 0 where
  pub state : s' ≡ s
  pub words : memory' ≡ memory
  pub finished : f ≡ 0

-- for every memory, board and state in row 12, whether the call is turned down or not: any number of clocks, on none of which reset is held
abbrev pub HaltedRun : Type 0
HaltedRun =
    (memory : List ℕ) (board : Board) (resets : List ℕ) (s : GateState) (k : ℕ) → s.row ≡ 12 → ((i : ℕ) → i < k → is_reset resets i ≡ false)
    → (r : GateResult) (memory' : List ℕ) → GateRuns memory board resets s k memory' r
    → Unchanged memory s memory' r.state (gate_finished r.outcome)

-- and one clock on a state that is lent
abbrev pub HaltedClock : Type 0
HaltedClock =
    (memory : List ℕ) (board : Board) (s : GateState) → s.row ≡ 12
    → (r : Result ℕ Refusal) (s' : GateState) (memory' : List ℕ) → LentClock memory board s memory' s' r
    → Unchanged memory s memory' s' (gate_finished r)
