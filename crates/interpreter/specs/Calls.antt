-- The two public calls, run and file run: their results, the memory and the journal at exit, carried out or turned down. Document 01,
-- "Machine and instruction word", "Clocks", "File run and journal" and "Why a call is turned down"; CR 5 to CR 7 and CR 11.
use Rattle.model.specs.declared.Refusal.{Refusal}
use Rattle.interpreter.specs.declared.FileEnding.{FileEnding}
use Rattle.std.specs.Prelude.{ℕ, ◌≡◌, Bool, cond, List, [], length, Ok, Err, Result}
use Rattle.model.specs.declared.Machine.{Machine}
use Rattle.model.specs.declared.Ending.{Ending}
use Rattle.model.specs.Words.{overlay}
use Rattle.model.specs.Board.{Board, board_with}
use Rattle.model.specs.Interpreter.{goes_on, Run, begin, interpret}
use Rattle.model.specs.Journal.{room_in, Noted, fresh, run_noted, completes, journal_words}
use Rattle.model.specs.Refusals.{refusal_number, verdict_number, left_by, run_verdict, file_verdict, Verdict}
use Rattle.interpreter.specs.declared.RunResult.{RunResult}
use Rattle.interpreter.specs.declared.FileResult.{FileResult}

-- ---- the run

-- the answer is "finished", "outside" or "no instruction"; a run that is turned down returns its start and its list position, and has run nothing
abbrev pub run_result : Verdict → (position : ℕ) → Machine → Run → RunResult
run_result (Ok u) position start r =
    record { answer = Ok r.ending; machine = r.machine; ran = r.ran; clocks = r.clocks; position = r.position }
run_result (Err why) position start r =
    record { answer = Err why; machine = start; ran = 0; clocks = 0; position = position }

-- the papers' number of an answer; 0 where the call was carried out
abbrev pub run_number : Result Ending Refusal → ℕ
run_number (Ok ending) = 0
run_number (Err why) = refusal_number why

-- what a run of so many instructions returns, and the memory that it leaves
unfoldable pub run_returned : (memory : List ℕ) → Board → (position : ℕ) → Machine → (count : ℕ) → RunResult
run_returned memory board position start count =
    run_result (run_verdict memory board position) position start (interpret board count (begin start memory position))

unfoldable pub run_words : (memory : List ℕ) → Board → (position : ℕ) → Machine → (count : ℕ) → List ℕ
run_words memory board position start count =
    left_by (run_verdict memory board position) (interpret board count (begin start memory position)).memory memory

-- what a run promises: its result, the memory's words, and the number for why it was turned down
pub record Runs (memory : List ℕ) (board : Board) (position : ℕ) (start : Machine) (count : ℕ) (memory' : List ℕ) (r : RunResult) : Type 0 where
  pub result : r ≡ run_returned memory board position start count
  pub words : memory' ≡ run_words memory board position start count
  pub number : run_number r.answer ≡ verdict_number (run_verdict memory board position)

-- ---- the file run

-- CR 11: "journal full"; else "finished" where the interpreter finishes, and "undone" where it stopped
abbrev pub file_answer_of : (full : Bool) → Ending → FileEnding
file_answer_of full e = cond full FileEnding.Full (cond (goes_on e) FileEnding.Finished FileEnding.Undone)

abbrev pub file_answer : Noted → FileEnding
file_answer k = file_answer_of k.full k.run.ending

-- unless it finished it returns its start
abbrev pub file_result : Verdict → Machine → Noted → FileResult
file_result (Ok u) start k =
    record { answer = Ok (file_answer k); machine = cond (completes k) k.run.machine start; ran = k.run.ran; pairs = length k.pairs }
file_result (Err why) start k =
    record { answer = Err why; machine = start; ran = 0; pairs = 0 }

-- and leaves the memory as it was
abbrev pub memory_end : (memory : List ℕ) → Noted → List ℕ
memory_end memory k = cond (completes k) k.run.memory memory

abbrev pub file_number : Result FileEnding Refusal → ℕ
file_number (Ok ending) = 0
file_number (Err why) = refusal_number why

-- a file run has no waits
abbrev pub file_board : (bottom : ℕ) → Board
file_board bottom = board_with bottom []

module _ (memory : List ℕ) (bottom : ℕ) (journal : List ℕ) (start : Machine) (count : ℕ) where
  -- the run, with a journal that begins with no pairs
  abbrev pub whole_file : Noted
  whole_file = run_noted (file_board bottom) (room_in journal) count (fresh (begin start memory 0) [])

  -- what a file run of so many instructions returns, and the memory and the journal that it leaves
  unfoldable pub file_returned : FileResult
  file_returned = file_result (file_verdict memory bottom) start whole_file

  unfoldable pub file_words : List ℕ
  file_words = left_by (file_verdict memory bottom) (memory_end memory whole_file) memory

  -- the pairs over the journal's first places; the places that are not used stay
  unfoldable pub file_places : List ℕ
  file_places = left_by (file_verdict memory bottom) (overlay (journal_words whole_file.pairs) journal) journal

  -- what a file run promises: its result, the memory's words, the journal's places, and the number for why it was turned down
  pub record FileRuns (memory' journal' : List ℕ) (r : FileResult) : Type 0 where
    pub result : r ≡ file_returned
    pub words : memory' ≡ file_words
    pub places : journal' ≡ file_places
    pub number : file_number r.answer ≡ verdict_number (file_verdict memory bottom)
