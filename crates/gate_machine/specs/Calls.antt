-- The public call, a gate run: its result and the memory at exit, carried out or turned down. Document 01, "Clocks" and "Why a call is
-- turned down"; CR 6 and CR 7.
use Rattle.model.specs.declared.Refusal.{Refusal}
use Rattle.std.specs.Prelude.{ℕ, ◌≡◌, List, Ok, Err, Result}
use Rattle.model.specs.declared.GateState.{GateState}
use Rattle.model.specs.Board.{Board}
use Rattle.model.specs.GateMachine.{Gate, gate_run}
use Rattle.model.specs.Refusals.{refusal_number, verdict_number, left_by, gate_verdict, Verdict}
use Rattle.model.specs.Agreement.{gate_from}
use Rattle.gate_machine.specs.declared.GateResult.{GateResult}

-- a gate run answers how many instructions finished; one that is turned down returns its start
abbrev pub gate_result : Verdict → GateState → Gate → GateResult
gate_result (Ok u) start g = record { outcome = Ok g.finished; state = g.state }
gate_result (Err why) start g = record { outcome = Err why; state = start }

-- the papers' number of an answer; 0 where the call was carried out
abbrev pub gate_number : Result ℕ Refusal → ℕ
gate_number (Ok finished) = 0
gate_number (Err why) = refusal_number why

-- how many instructions finished: none in a run that is turned down
abbrev pub gate_finished : Result ℕ Refusal → ℕ
gate_finished (Ok finished) = finished
gate_finished (Err why) = 0

-- what a gate run of so many clocks returns, and the memory that it leaves
unfoldable pub gate_returned : (memory : List ℕ) → Board → (resets : List ℕ) → GateState → (clocks : ℕ) → GateResult
gate_returned memory board resets start clocks = gate_result (gate_verdict memory board resets start) start (gate_run board resets clocks (gate_from start memory))

unfoldable pub gate_words : (memory : List ℕ) → Board → (resets : List ℕ) → GateState → (clocks : ℕ) → List ℕ
gate_words memory board resets start clocks = left_by (gate_verdict memory board resets start) (gate_run board resets clocks (gate_from start memory)).memory memory

-- what a gate run promises: its result, the memory's words, and the number for why it was turned down
pub record GateRuns (memory : List ℕ) (board : Board) (resets : List ℕ) (start : GateState) (clocks : ℕ) (memory' : List ℕ) (r : GateResult) : Type 0 where
  pub result : r ≡ gate_returned memory board resets start clocks
  pub words : memory' ≡ gate_words memory board resets start clocks
  pub number : gate_number r.outcome ≡ verdict_number (gate_verdict memory board resets start)
