-- What demand 3 supposes can be met: results of the calls, as `TwoRuns` and `SinceReset` speak of them, for every n and k, and for resets on
-- any clocks. CR 7.
use Rattle.std.specs.Prelude.{ℕ, ◌+◌, ◌≤◌, ◌<◌, ◌≡◌, true, List, [], Ok}
use Rattle.model.specs.declared.GateState.{GateState}
use Rattle.model.specs.Board.{Board}
use Rattle.model.specs.Resets.{is_reset}
use Rattle.model.specs.Refusals.{run_verdict, gate_verdict}
use Rattle.model.specs.Agreement.{machine_of}
use Rattle.model.specs.AfterReset.{LastReset}
use Rattle.interpreter.specs.declared.RunResult.{RunResult}
use Rattle.interpreter.specs.Calls.{Runs, run_number}
use Rattle.agreement.specs.Series.{Series, one, more}
use Rattle.agreement.specs.TwoRuns.{Start}
use Rattle.agreement.specs.SinceReset.{Restarted}

abbrev pub most_clocks : ℕ
most_clocks = 18_446_744_073_709_551_615

-- so many clocks, with such resets, as a call can be asked for
abbrev pub Askable : (resets : List ℕ) → (k : ℕ) → Type 0
Askable resets k = (k ≤ most_clocks) × ((i : ℕ) → is_reset resets i ≡ true → i ≤ most_clocks)

-- each gate run of a series is such a one
unfoldable pub InCalls : {board : Board} {memory : List ℕ} {start : GateState} {resets : List ℕ} {k f : ℕ} {s : GateState} {m : List ℕ} → Series board memory start resets k f s m → Type 0
InCalls (one {resets = resets} {k = k} h z) = Askable resets k
InCalls (more {later = later} {k = k} p h z) = InCalls p × Askable later k

-- a series of k clocks in all, on those of which reset is held that a list says
pub record Clocked (memory : List ℕ) (board : Board) (start : GateState) (resets : List ℕ) (k : ℕ) : Type 0 where
  pub list : List ℕ
  pub same : (i : ℕ) → i < k → is_reset list i ≡ is_reset resets i
  pub finished : ℕ
  pub state : GateState
  pub words : List ℕ
  pub series : Series board memory start list k finished state words
  pub calls : InCalls series

-- for every memory, board and state that a gate run does not turn down, for any resets and every k, also 0 and past 64 bits
abbrev pub AnyClocks : Type 0
AnyClocks =
    (memory : List ℕ) (board : Board) (start : GateState) (resets : List ℕ) (k : ℕ) → gate_verdict memory board [] start ≡ Ok tt
    → Clocked memory board start resets k

-- ---- what `TwoRuns` supposes

-- what the run returns and leaves, carried out, and k clocks without a reset
pub record Supposed (memory : List ℕ) (board : Board) (start : GateState) (n k : ℕ) : Type 0 where
  pub result : RunResult
  pub words : List ℕ
  pub runs : Runs memory board start.position (machine_of start) n words result
  pub carried : run_number result.answer ≡ 0
  pub clocks : Clocked memory board start [] k

abbrev pub CanBeMet : Type 0
CanBeMet =
    (memory : List ℕ) (board : Board) (start : GateState) (n k : ℕ) → Start start → run_verdict memory board start.position ≡ Ok tt
    → Supposed memory board start n k

-- ---- what `SinceReset` supposes

-- c + 1 + k clocks whose last reset is on clock c, the first c + 1 of them, and what the run from there returns and leaves
pub record SupposedSince (memory : List ℕ) (board : Board) (start : GateState) (resets : List ℕ) (n c k : ℕ) : Type 0 where
  pub first : Clocked memory board start resets (c + 1)
  pub whole : Clocked memory board start resets (c + 1 + k)
  pub restarted : Restarted board memory start c k first.finished first.state first.words whole.finished whole.state whole.words
  pub result : RunResult
  pub words : List ℕ
  pub runs : Runs first.words board first.state.position (machine_of first.state) n words result

abbrev pub RestartCanBeMet : Type 0
RestartCanBeMet =
    (memory : List ℕ) (board : Board) (start : GateState) (resets : List ℕ) (n c k : ℕ) → gate_verdict memory board [] start ≡ Ok tt
    → LastReset resets c k → SupposedSince memory board start resets n c k
