-- The file run beside the run, in the terms of what the two calls return by their contracts. Document 01, "File run and journal"; CR 5 to
-- CR 7 and CR 11.
use Rattle.model.specs.declared.Refusal.{Refusal}
use Rattle.interpreter.specs.declared.FileEnding.{FileEnding}
use Rattle.model.specs.declared.Ending.{Ending}
use Rattle.std.specs.Prelude.{ℕ, ◌<◌, ◌≡◌, Bool, true, false, List, Ok, Err, Result}
use Rattle.model.specs.declared.Machine.{Machine}
use Rattle.model.specs.Board.{Board}
use Rattle.interpreter.specs.declared.RunResult.{RunResult}
use Rattle.interpreter.specs.declared.FileResult.{FileResult}
use Rattle.interpreter.specs.Calls.{Runs, run_number, FileRuns, file_number}

-- CR 11: whether a file run's answer is "journal full"
abbrev pub is_full : Result FileEnding Refusal → Bool
is_full (Ok FileEnding.Finished) = false
is_full (Ok FileEnding.Undone) = false
is_full (Ok FileEnding.Full) = true
is_full (Err why) = false

-- ---- where the journal is not full

-- "finished" exactly where the run is, "undone" exactly where it is "outside" or "no instruction"
abbrev pub file_answer : Result Ending Refusal → Result FileEnding Refusal
file_answer (Ok Ending.Finished) = Ok FileEnding.Finished
file_answer (Ok Ending.Outside) = Ok FileEnding.Undone
file_answer (Ok Ending.NoInstruction) = Ok FileEnding.Undone
file_answer (Err why) = Err why

-- The run returned r and left `words`; the file run returned f and left `words'`. Both ran as many instructions; where the run finished,
-- machine and memory are the run's, and where it is "outside" or "no instruction" they are those of the start.
pub record AsRun (memory : List ℕ) (start : Machine) (words : List ℕ) (r : RunResult) (words' : List ℕ) (f : FileResult) : Type 0 where
  pub answer : f.answer ≡ file_answer r.answer
  pub ran : f.ran ≡ r.ran
  pub finished : r.answer ≡ Ok Ending.Finished → (f.machine ≡ r.machine) × (words' ≡ words)
  pub outside : r.answer ≡ Ok Ending.Outside → (f.machine ≡ start) × (words' ≡ memory)
  pub halted : r.answer ≡ Ok Ending.NoInstruction → (f.machine ≡ start) × (words' ≡ memory)

-- for every memory, bottom, start, n and journal, and under every wait list from any position, where neither call is turned down
abbrev pub FileAsRun : Type 0
FileAsRun =
    (memory : List ℕ) (board : Board) (position : ℕ) (journal : List ℕ) (start : Machine) (n : ℕ)
    → (r : RunResult) (words : List ℕ) → Runs memory board position start n words r → run_number r.answer ≡ 0
    → (f : FileResult) (words' journal' : List ℕ) → FileRuns memory board.bottom journal start n words' journal' f → file_number f.answer ≡ 0
    → is_full f.answer ≡ false
    → AsRun memory start words r words' f

-- ---- CR 11: where it is full

-- The file run is undone before an instruction that the run runs, whatever comes after it: it ran fewer instructions than the run, and so
-- fewer than it was asked for.
pub record BeforeRun (memory : List ℕ) (start : Machine) (n : ℕ) (r : RunResult) (words' : List ℕ) (f : FileResult) : Type 0 where
  pub machine : f.machine ≡ start
  pub words : words' ≡ memory
  pub ran : f.ran < r.ran
  pub asked : f.ran < n

abbrev pub FullAsRun : Type 0
FullAsRun =
    (memory : List ℕ) (board : Board) (position : ℕ) (journal : List ℕ) (start : Machine) (n : ℕ)
    → (r : RunResult) (words : List ℕ) → Runs memory board position start n words r → run_number r.answer ≡ 0
    → (f : FileResult) (words' journal' : List ℕ) → FileRuns memory board.bottom journal start n words' journal' f
    → is_full f.answer ≡ true
    → BeforeRun memory start n r words' f
