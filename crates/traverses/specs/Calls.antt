-- CR 1: the call `traverse`: its result, the memory and the journal at exit, carried out or turned down. CR 11: "journal full"; 5 and 6 are
-- given no longer.
use Rattle.model.specs.declared.Refusal.{Refusal}
use Rattle.traverses.specs.declared.TraverseEnding.{TraverseEnding}
use Rattle.std.specs.Prelude.{ℕ, ◌-◌, ◌≡◌, Bool, cond, ◌||◌, List, eqb, leb, length, Ok, Err, Result}
use Rattle.model.specs.declared.Machine.{Machine}
use Rattle.model.specs.declared.Refusal.TheVariants.{WrongVersion, TooManyFiles, FileMisplaced, WordsMismatched}
use Rattle.model.specs.Journal.{room_in}
use Rattle.model.specs.Refusals.{refusal_number, verdict_number, left_by, demand, ◌then◌, file_verdict, Verdict}
use Rattle.traverses.specs.declared.TraverseEnding.TheVariants.{Marked, Finished, Undone, Full}
use Rattle.traverses.specs.declared.TraverseResult.{TraverseResult}
use Rattle.traverses.specs.declared.File.{File}
use Rattle.traverses.specs.Files.{files_in, parts, sizes, all_placed}
use Rattle.traverses.specs.Traverse.{Progress, set_out, taken_back, traversed}

-- ---- the first reason to turn a traverse down

abbrev pub most_files : ℕ
most_files = 64

-- 16, 17 and 18, of the files and the list that their words lie in
abbrev pub files_fit : List File → (memory : List ℕ) → (bottom : ℕ) → (load : List ℕ) → Verdict
files_fit files memory bottom load =
    demand (leb (length files) most_files) TooManyFiles
    then demand (all_placed files memory bottom) FileMisplaced
    then demand (eqb (sizes files) (length load)) WordsMismatched

-- 11: the versions that have a rule
abbrev pub has_rule : (version : ℕ) → Bool
has_rule version = eqb version 1 || eqb version 2

abbrev pub version_fits : ℕ → Verdict
version_fits version = demand (has_rule version) WrongVersion

-- first the reasons of a file run, 1, 2 and 21
unfoldable pub traverse_verdict : (memory : List ℕ) → (bottom : ℕ) → (load : List ℕ) → List File → (version : ℕ) → Verdict
traverse_verdict memory bottom load files version =
    file_verdict memory bottom then files_fit files memory bottom load then version_fits version

-- ---- what is answered

-- under rule 1 the mask; under rule 2 "finished", or "undone" or "journal full" with the number of the file, which is the last that was run
abbrev pub stopped_by : (full : Bool) → (file : ℕ) → TraverseEnding
stopped_by full file = cond full (Full file) (Undone file)

abbrev pub traverse_answer : (version : ℕ) → Progress → TraverseEnding
traverse_answer version t =
    cond (eqb version 1) (Marked t.undone) (cond (eqb t.undone 0) Finished (stopped_by t.full (t.files - 1)))

-- a traverse that is taken back, or turned down, returns its start
abbrev pub traverse_result : Verdict → (version : ℕ) → Machine → Progress → TraverseResult
traverse_result (Ok u) version start t =
    record {
      answer = Ok (traverse_answer version t);
      machine = cond (taken_back version t) start t.machine;
      ran = t.ran;
      pairs = length t.pairs;
    }
traverse_result (Err why) version start t =
    record { answer = Err why; machine = start; ran = 0; pairs = 0 }

-- the papers' number of an answer; 0 where the call was carried out
abbrev pub traverse_number : Result TraverseEnding Refusal → ℕ
traverse_number (Ok ending) = 0
traverse_number (Err why) = refusal_number why

-- ---- the call

-- `load` is the one list that the files' words lie in
module _ (memory : List ℕ) (bottom : ℕ) (journal load files : List ℕ) (start : Machine) (version : ℕ) where
  abbrev pub verdict_here : Verdict
  verdict_here = traverse_verdict memory bottom load (files_in files) version

  abbrev pub whole_traverse : Progress
  whole_traverse = traversed bottom version (room_in journal) (parts (files_in files) load) (set_out start memory journal)

  -- what it returns, and the memory and the journal that it leaves
  unfoldable pub traverse_returned : TraverseResult
  traverse_returned = traverse_result verdict_here version start whole_traverse

  unfoldable pub traverse_words : List ℕ
  traverse_words = left_by verdict_here (cond (taken_back version whole_traverse) memory whole_traverse.memory) memory

  unfoldable pub traverse_places : List ℕ
  traverse_places = left_by verdict_here whole_traverse.places journal

  -- what a traverse promises: its result, the memory's words, the journal's places, and the number for why it was turned down
  pub record Traverses (memory' journal' : List ℕ) (r : TraverseResult) : Type 0 where
    pub result : r ≡ traverse_returned
    pub words : memory' ≡ traverse_words
    pub places : journal' ≡ traverse_places
    pub number : traverse_number r.answer ≡ verdict_number verdict_here
