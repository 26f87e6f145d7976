-- CR 7: what follows the last reset, in the terms of what the calls return by their contracts. "After the last reset in a run, from any row, 12
-- too, everything must be as if a machine had been started with those registers, flags, latches, memory and list position. Mark and total
-- are then counted from the clock after it, while the run still returns all that finished in it, before a reset too." The start is any
-- that a gate run takes. Clocks are done in one run or in several that follow on.
use Rattle.std.specs.Prelude.{ℕ, ◌+◌, ◌-◌, ◌<◌, ◌≤◌, ◌≡◌, true, false, List}
use Rattle.model.specs.declared.GateState.{GateState}
use Rattle.model.specs.Board.{Board}
use Rattle.model.specs.Resets.{is_reset}
use Rattle.model.specs.GateMachine.{reset_state}
use Rattle.model.specs.AfterReset.{LastReset}
use Rattle.model.specs.Agreement.{machine_of}
use Rattle.interpreter.specs.declared.RunResult.{RunResult}
use Rattle.interpreter.specs.Calls.{Runs, run_number}
use Rattle.agreement.specs.Series.{Series}
use Rattle.agreement.specs.TwoRuns.{Start, InStep}

-- ---- the reset

-- Clocks 0 to c - 1 finished f instructions, gave s and left m; with clock c, a reset, f₁, s₁ and m₁: r0 and the row are 0 and a begun
-- access is dropped, nothing else has changed, and what is left is a start, so that demand 3 (`TwoRuns`) holds of what follows.
pub record ResetLeaves (f : ℕ) (s : GateState) (m : List ℕ) (f₁ : ℕ) (s₁ : GateState) (m₁ : List ℕ) : Type 0 where
  pub state : s₁ ≡ reset_state s
  pub memory : m₁ ≡ m
  pub finished : f₁ ≡ f
  pub start : Start s₁

abbrev pub OnReset : Type 0
OnReset =
    (board : Board) (memory : List ℕ) (start : GateState) (c : ℕ) (resets resets₁ : List ℕ)
    → ((i : ℕ) → i < c → is_reset resets i ≡ is_reset resets₁ i) → is_reset resets₁ c ≡ true
    → (f : ℕ) (s : GateState) (m : List ℕ) → Series board memory start resets c f s m
    → (f₁ : ℕ) (s₁ : GateState) (m₁ : List ℕ) → Series board memory start resets₁ (c + 1) f₁ s₁ m₁
    → ResetLeaves f s m f₁ s₁ m₁

-- ---- after the last one

-- a series of c + 1 + k clocks whose last reset is on clock c, and one of its first c + 1
pub record Restarted (board : Board) (memory : List ℕ) (start : GateState) (c k f₁ : ℕ) (s₁ : GateState) (m₁ : List ℕ) (f : ℕ) (s : GateState) (m : List ℕ) : Type 0 where
  pub resets : List ℕ
  pub last : LastReset resets c k
  pub whole : Series board memory start resets (c + 1 + k) f s m
  pub resets₁ : List ℕ
  pub same : (i : ℕ) → i ≤ c → is_reset resets₁ i ≡ is_reset resets i
  pub first : Series board memory start resets₁ (c + 1) f₁ s₁ m₁

-- The clocks after the last reset come to what k clocks without a reset come to, from the state and the memory that the reset left; and the
-- counts add up.
abbrev pub AsStarted : Type 0
AsStarted =
    (board : Board) (memory : List ℕ) (start : GateState) (c k : ℕ)
    → (f₁ : ℕ) (s₁ : GateState) (m₁ : List ℕ) (f : ℕ) (s : GateState) (m : List ℕ) → Restarted board memory start c k f₁ s₁ m₁ f s m
    → (later : List ℕ) → ((i : ℕ) → i < k → is_reset later i ≡ false)
    → (f₂ : ℕ) (s₂ : GateState) (m₂ : List ℕ) → Series board m₁ s₁ later k f₂ s₂ m₂
    → (s ≡ s₂) × (m ≡ m₂) × (f ≡ f₁ + f₂)

-- Demand 3 since the last reset, beside the interpreter from what that left: the run is not turned down; the count is what finished up to
-- the reset and what finished since; and the two are in step since then, after k clocks, the reset's own not counted.
pub record InStepSince (n k f₁ f : ℕ) (s : GateState) (m : List ℕ) (r : RunResult) (words : List ℕ) : Type 0 where
  pub taken : run_number r.answer ≡ 0
  pub counts : f ≡ f₁ + (f - f₁)
  pub step : InStep n k r words (f - f₁) s m

abbrev pub SinceReset : Type 0
SinceReset =
    (board : Board) (memory : List ℕ) (start : GateState) (n c k : ℕ)
    → (f₁ : ℕ) (s₁ : GateState) (m₁ : List ℕ) (f : ℕ) (s : GateState) (m : List ℕ) → Restarted board memory start c k f₁ s₁ m₁ f s m
    → (r : RunResult) (words : List ℕ) → Runs m₁ board s₁.position (machine_of s₁) n words r
    → InStepSince n k f₁ f s m r words
