-- The public call, one clock on a borrowed state: its outcome, the state and the memory at exit, carried out or turned down. Document 01,
-- "Clocks" and "Why a call is turned down"; CR 6 and CR 7.
use Rattle.model.specs.declared.Refusal.{Refusal}
use Rattle.std.specs.Prelude.{ℕ, ◌≡◌, List, [], Result}
use Rattle.model.specs.declared.GateState.{GateState}
use Rattle.model.specs.Board.{Board}
use Rattle.model.specs.Refusals.{verdict_number, gate_verdict}
use Rattle.gate_machine.specs.Calls.{gate_number, gate_returned, gate_words}

-- the outcome of a gate run of one clock, on the state that was lent, which is advanced
pub record LentClock (memory : List ℕ) (board : Board) (state : GateState) (memory' : List ℕ) (state' : GateState) (r : Result ℕ Refusal) : Type 0 where
  pub result : r ≡ (gate_returned memory board [] state 1).outcome
  pub advanced : state' ≡ (gate_returned memory board [] state 1).state
  pub words : memory' ≡ gate_words memory board [] state 1
  pub number : gate_number r ≡ verdict_number (gate_verdict memory board [] state)
