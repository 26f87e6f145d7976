-- Gate runs that follow on: each goes on from the state and the memory that the one before it left, with resets of its own, and their
-- counts add up. Document 01, "Clocks"; CR 7.
use Rattle.std.specs.Prelude.{ℕ, ◌+◌, ◌<◌, ◌≡◌, true, List, Ok}
use Rattle.model.specs.declared.GateState.{GateState}
use Rattle.model.specs.Board.{Board}
use Rattle.model.specs.Resets.{is_reset, rises, resets_from, resets_then}
use Rattle.model.specs.GateMachine.{gate, gate_run}
use Rattle.model.specs.Refusals.{gate_verdict}
use Rattle.model.specs.Agreement.{gate_from}
use Rattle.gate_machine.specs.declared.GateResult.{GateResult}
use Rattle.gate_machine.specs.Calls.{gate_number, GateRuns, gate_finished}

-- Runs that are all carried out, each with resets counted from its own beginning. In all: the resets, counted from the beginning of the
-- first run, the clocks, the instructions that finished, the last state and memory.
pub data Series (board : Board) (memory : List ℕ) (start : GateState) : (resets : List ℕ) (clocks finished : ℕ) → GateState → List ℕ → Type 0 where
  one : {resets : List ℕ} {k : ℕ} {r : GateResult} {after : List ℕ} → GateRuns memory board resets start k after r → gate_number r.outcome ≡ 0
      → Series board memory start resets k (gate_finished r.outcome) r.state after
  more : {resets later : List ℕ} {i f : ℕ} {s : GateState} {m : List ℕ} {k : ℕ} {r : GateResult} {after : List ℕ}
      → Series board memory start resets i f s m → GateRuns m board later s k after r → gate_number r.outcome ≡ 0
      → Series board memory start (resets_then i resets later) (i + k) (f + gate_finished r.outcome) r.state after

-- a series does what one run of all its clocks and resets does
abbrev pub SeriesAsOne : Type 0
SeriesAsOne =
    (board : Board) (memory : List ℕ) (start : GateState) (resets : List ℕ) (k f : ℕ) (s : GateState) (m : List ℕ)
    → Series board memory start resets k f s m → gate s m f ≡ gate_run board resets k (gate_from start memory)

-- and that run is not turned down either: its call returns and leaves the same
abbrev pub SeriesAsCall : Type 0
SeriesAsCall =
    (board : Board) (memory : List ℕ) (start : GateState) (resets : List ℕ) (k f : ℕ) (s : GateState) (m : List ℕ)
    → Series board memory start resets k f s m
    → (r : GateResult) (after : List ℕ) → GateRuns memory board resets start k after r
    → (gate_number r.outcome ≡ 0) × (gate r.state after (gate_finished r.outcome) ≡ gate s m f)

-- the next run is carried out, wherever its resets rise
abbrev pub SeriesGoesOn : Type 0
SeriesGoesOn =
    (board : Board) (memory : List ℕ) (start : GateState) (resets : List ℕ) (k f : ℕ) (s : GateState) (m : List ℕ)
    → Series board memory start resets k f s m
    → (later : List ℕ) → rises later ≡ true → gate_verdict m board later s ≡ Ok tt

-- Two series of k clocks, on the same of which reset is held, come to the same, however the clocks are divided into runs. Numbers at or past
-- k have no effect.
abbrev pub AnySplit : Type 0
AnySplit =
    (board : Board) (memory : List ℕ) (start : GateState) (k : ℕ) (resets resets' : List ℕ)
    → ((i : ℕ) → i < k → is_reset resets i ≡ is_reset resets' i)
    → (f : ℕ) (s : GateState) (m : List ℕ) → Series board memory start resets k f s m
    → (f' : ℕ) (s' : GateState) (m' : List ℕ) → Series board memory start resets' k f' s' m'
    → gate s m f ≡ gate s' m' f'

-- A run of i + k clocks that is carried out, split after any i: the run of i clocks with the same list, and the run of k clocks from what
-- that one left with the numbers that are left, counted from there, are carried out too, and come to the same.
pub record InTwo (whole first second : GateResult) (words words₂ : List ℕ) : Type 0 where
  pub first_taken : gate_number first.outcome ≡ 0
  pub second-taken : gate_number second.outcome ≡ 0
  pub state : whole.state ≡ second.state
  pub memory : words ≡ words₂
  pub finished : gate_finished whole.outcome ≡ gate_finished first.outcome + gate_finished second.outcome

abbrev pub SplitAnywhere : Type 0
SplitAnywhere =
    (board : Board) (memory : List ℕ) (resets : List ℕ) (start : GateState) (i k : ℕ)
    → (whole : GateResult) (words : List ℕ) → GateRuns memory board resets start (i + k) words whole → gate_number whole.outcome ≡ 0
    → (first : GateResult) (words₁ : List ℕ) → GateRuns memory board resets start i words₁ first
    → (second : GateResult) (words₂ : List ℕ) → GateRuns words₁ board (resets_from i resets) first.state k words₂ second
    → InTwo whole first second words words₂
