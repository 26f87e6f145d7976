-- Demand 3 for the public calls `interpreter::run` and `gate_machine::run`, in the terms of what they return by their contracts. Document
-- 01, "Clocks"; CR 5 to CR 7.
use Rattle.model.specs.declared.Ending.{Ending}
use Rattle.std.specs.Prelude.{ℕ, ◌≤◌, ◌<◌, ◌≡◌, ◌↔◌, false, List, [], Ok}
use Rattle.model.specs.declared.GateState.{GateState}
use Rattle.model.specs.Board.{Board}
use Rattle.model.specs.Resets.{is_reset}
use Rattle.model.specs.GateMachine.{gate}
use Rattle.model.specs.Refusals.{run_verdict, gate_verdict}
use Rattle.model.specs.Agreement.{Mark, mark_of, gate_mark, machine_of}
use Rattle.interpreter.specs.declared.RunResult.{RunResult}
use Rattle.interpreter.specs.Calls.{Runs, run_number}
use Rattle.agreement.specs.Series.{Series}

-- a start: row 0, no access begun, no clocks left; registers, flags, latches and, with CR 7, list position are any
pub record Start (s : GateState) : Type 0 where
  pub row : s.row ≡ 0
  pub begun : s.begun ≡ false
  pub left : s.left ≡ 0

-- the interpreter's mark: what its run returned, and its memory after it
abbrev pub run_mark : RunResult → List ℕ → Mark
run_mark r memory = mark_of r.ran r.machine memory

-- The run of n instructions returned r and left `words`; k clocks finished f instructions, gave the state s and left `words'`. The marks
-- are equal exactly when k is the clock total that was returned, however the run ended; a run that finished ran all n; after "outside" and after "no
-- instruction" no more finish than ran.
pub record InStep (n k : ℕ) (r : RunResult) (words : List ℕ) (f : ℕ) (s : GateState) (words' : List ℕ) : Type 0 where
  pub marks : gate_mark (gate s words' f) ≡ run_mark r words ↔ (k ≡ r.clocks)
  pub all : r.answer ≡ Ok Ending.Finished → r.ran ≡ n
  pub outside : r.answer ≡ Ok Ending.Outside → f ≤ r.ran
  pub halted : r.answer ≡ Ok Ending.NoInstruction → f ≤ r.ran

-- For every memory, board and start that the interpreter's run does not turn down, for every n, and for every k, done in one gate run or
-- in a series of them, on none of whose clocks reset is held: k is the sum of the clocks of the runs and may pass 64 bits, and f is the
-- sum of their counts.
abbrev pub TwoRuns : Type 0
TwoRuns =
    (memory : List ℕ) (board : Board) (start : GateState) (n k : ℕ) → Start start
    → (r : RunResult) (words : List ℕ) → Runs memory board start.position (machine_of start) n words r → run_number r.answer ≡ 0
    → (resets : List ℕ) → ((i : ℕ) → i < k → is_reset resets i ≡ false)
    → (f : ℕ) (s : GateState) (words' : List ℕ) → Series board memory start resets k f s words'
    → InStep n k r words f s words'

-- the two runs turn the same starts down, for the same reason
abbrev pub SameVerdict : Type 0
SameVerdict = (memory : List ℕ) (board : Board) (start : GateState) → Start start → gate_verdict memory board [] start ≡ run_verdict memory board start.position
