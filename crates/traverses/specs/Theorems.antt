-- CR 1 and CR 11: what holds of the calls of a traverse, and of a file run's journal: a file run is a traverse of one file; under rule 1 an undone file
-- leaves nothing but its pairs and its bit; under rule 2 an undone traverse leaves its start; when the journal is full; no address stands twice;
-- the pairs taken back give the memory before; with room for a pair for each word and instruction everything else is as before CR 11; the bottom of
-- memory stays, and changes nothing else (CR 6).
use Rattle.model.specs.declared.Refusal.{Refusal}
use Rattle.traverses.specs.declared.TraverseEnding.{TraverseEnding}
use Rattle.interpreter.specs.declared.FileEnding.{FileEnding}
use Rattle.std.specs.Prelude.{ℕ, ◌+◌, ◌*◌, ◌≤◌, ◌<◌, ◌≡◌, Bool, true, false, not, cond, ◌&&◌, List, [], ◌∷◌, ◌++◌, eqb, leb, length, get_or, take, Ok, Err, Result}
use Rattle.model.specs.declared.Machine.{Machine}
use Rattle.model.specs.Words.{bit, word_at}
use Rattle.model.specs.Interpreter.{goes_on, address_b, next_runs, alters_memory, begin}
use Rattle.model.specs.Journal.{has_pair, room_in, noting, Noted, fresh, run_one, run_noted, completes}
use Rattle.model.specs.Bottom.{never_stores_below}
use Rattle.journal.specs.Undo.{undone, restored}
use Rattle.interpreter.specs.declared.FileResult.{FileResult}
use Rattle.interpreter.specs.Calls.{file_board, file_number, FileRuns}
use Rattle.traverses.specs.declared.TraverseEnding.TheVariants.{Marked, Finished, Undone, Full}
use Rattle.traverses.specs.declared.TraverseResult.{TraverseResult}
use Rattle.traverses.specs.Files.{Part, parts, wanted, files_in}
use Rattle.traverses.specs.Traverse.{lay_one, part_laid, Progress, set_out, pairs_before, taken_back, file_noted, one_file}
use Rattle.traverses.specs.Calls.{has_rule, stopped_by, traverse_number, Traverses}
use Rattle.traverses.specs.Plain.{Plain, plain_out, plain_traversed, plain_answer, plain_kept}

-- ---- a file run is a traverse of one file with no words at place 0, entered at r0

abbrev pub lone : Machine → (count : ℕ) → List ℕ
lone start count = 0 ∷ 0 ∷ word_at start.regs 0 ∷ count ∷ []

-- what a file run answers, as a traverse answers it
abbrev pub as_answer : (version : ℕ) → Result FileEnding Refusal → Result TraverseEnding Refusal
as_answer version (Ok FileEnding.Finished) = Ok (cond (eqb version 1) (Marked 0) Finished)
as_answer version (Ok FileEnding.Undone) = Ok (cond (eqb version 1) (Marked 1) (Undone 0))
as_answer version (Ok FileEnding.Full) = Ok (cond (eqb version 1) (Marked 1) (Full 0))
as_answer version (Err why) = Err why

abbrev pub as_traverse : (version : ℕ) → FileResult → TraverseResult
as_traverse version r =
    record { answer = as_answer version r.answer; machine = r.machine; ran = r.ran; pairs = r.pairs }

-- whatever a file run returns and leaves, refused or not, such a traverse does under either rule
abbrev pub OneFileTraverse : Type 0
OneFileTraverse =
    (memory : List ℕ) (bottom : ℕ) (journal : List ℕ) (start : Machine) (count version : ℕ) → has_rule version ≡ true
    → (memory' journal' : List ℕ) (r : FileResult) → FileRuns memory bottom journal start count memory' journal' r
    → Traverses memory bottom journal [] (lone start count) start version memory' journal' (as_traverse version r)

-- ---- "journal full": exactly where a store, or a laid word, needs one address more than there are pairs

-- the next instruction lacks no word and is one, and alters a word whose address has no pair, while all pairs are used
abbrev pub needs_one_more : (bottom room : ℕ) → Noted → Bool
needs_one_more bottom room k =
    let memory = k.run.memory in
    let m = k.run.machine in
    (goes_on k.run.ending && next_runs memory m && alters_memory memory m bottom)
    && not (has_pair k.pairs (address_b memory m)) && leb room (length k.pairs)

abbrev pub FullWhen : Type 0
FullWhen =
    (bottom room : ℕ) (k : Noted) → k.full ≡ false → length k.pairs ≤ room
    → (run_one (file_board bottom) room k).full ≡ needs_one_more bottom room k

abbrev pub LaidFullWhen : Type 0
LaidFullWhen =
    (room : ℕ) (k : Noted) (place word : ℕ) → k.full ≡ false → length k.pairs ≤ room
    → (lay_one room k place word).full ≡ (not (has_pair k.pairs place) && leb room (length k.pairs))

-- so a file run is full exactly where its next instruction after those that ran is one that needs one more
pub record FullThere (memory : List ℕ) (bottom : ℕ) (journal : List ℕ) (start : Machine) (count ran : ℕ) : Type 0 where
  pub less : ran < count
  pub before : (run_noted (file_board bottom) (room_in journal) ran (fresh (begin start memory 0) [])).full ≡ false
  pub needs : needs_one_more bottom (room_in journal) (run_noted (file_board bottom) (room_in journal) ran (fresh (begin start memory 0) [])) ≡ true

abbrev pub FullThen : Type 0
FullThen =
    (memory : List ℕ) (bottom : ℕ) (journal : List ℕ) (start : Machine) (count : ℕ) (memory' journal' : List ℕ) (r : FileResult)
    → FileRuns memory bottom journal start count memory' journal' r
    → r.answer ≡ Ok FileEnding.Full → FullThere memory bottom journal start count r.ran

abbrev pub FullFrom : Type 0
FullFrom =
    (memory : List ℕ) (bottom : ℕ) (journal : List ℕ) (start : Machine) (count i : ℕ) → FullThere memory bottom journal start count i
    → (memory' journal' : List ℕ) (r : FileResult) → FileRuns memory bottom journal start count memory' journal' r → file_number r.answer ≡ 0
    → (r.answer ≡ Ok FileEnding.Full) × (r.ran ≡ i)

-- ---- rule 1: memory, registers and flags are those of the files that finish, run alone

module _ (bottom version room : ℕ) where
  -- the files that finish, each from what the files before it left, with their words
  unfoldable pub finishing : List Part → Progress → List Part
  finishing [] t = []
  finishing (p ∷ ps) t =
      let rest = finishing ps (one_file bottom version room t p) in
      cond (completes (file_noted bottom version room t p)) (p ∷ rest) rest

  -- whether each file finishes, in turn
  unfoldable pub outcomes : List Part → Progress → List Bool
  outcomes [] t = []
  outcomes (p ∷ ps) t = completes (file_noted bottom version room t p) ∷ outcomes ps (one_file bottom version room t p)

-- files as they are lent: four numbers each, and their words in one list
unfoldable pub flat : List Part → List ℕ
flat [] = []
flat (p ∷ ps) = p.file.place ∷ p.file.size ∷ p.file.entry ∷ p.file.count ∷ flat ps

unfoldable pub loads : List Part → List ℕ
loads [] = []
loads (p ∷ ps) = p.words ++ loads ps

-- run alone they are carried out, none is undone, and the machine and the memory are those of the traverse of all files
pub record SameAlone (whole alone : TraverseResult) (words words₂ : List ℕ) : Type 0 where
  pub none : alone.answer ≡ Ok (Marked 0)
  pub machine : alone.machine ≡ whole.machine
  pub memory : words₂ ≡ words

-- with any journal of as many pairs
abbrev pub FinishingAlone : Type 0
FinishingAlone =
    (memory : List ℕ) (bottom : ℕ) (journal load files : List ℕ) (start : Machine) (memory' journal' : List ℕ) (r : TraverseResult)
    → Traverses memory bottom journal load files start 1 memory' journal' r → traverse_number r.answer ≡ 0
    → (other : List ℕ) → room_in other ≡ room_in journal
    → let done = finishing bottom 1 (room_in journal) (parts (files_in files) load) (set_out start memory journal) in
    (memory'' journal'' : List ℕ) (r₂ : TraverseResult)
    → Traverses memory bottom other (loads done) (flat done) start 1 memory'' journal'' r₂
    → SameAlone r r₂ memory' memory''

-- bit i of the mask is 1 where file i does not finish
abbrev pub MaskTells : Type 0
MaskTells =
    (memory : List ℕ) (bottom : ℕ) (journal load files : List ℕ) (start : Machine) (memory' journal' : List ℕ) (r : TraverseResult)
    → Traverses memory bottom journal load files start 1 memory' journal' r
    → (mask : ℕ) → r.answer ≡ Ok (Marked mask)
    → (i : ℕ) → bit mask i ≡ not (get_or (outcomes bottom 1 (room_in journal) (parts (files_in files) load) (set_out start memory journal)) i true)

-- ---- rule 2: "undone" and "journal full" leave memory, registers and flags of the start, and name the first file that does not finish

pub record TakenBack (bottom version : ℕ) (journal load files : List ℕ) (start : Machine) (memory memory' : List ℕ) (file : ℕ) (r : TraverseResult) : Type 0 where
  pub machine : r.machine ≡ start
  pub words : memory' ≡ memory
  pub first : (i : ℕ) → i < file
      → get_or (outcomes bottom version (room_in journal) (parts (files_in files) load) (set_out start memory journal)) i false ≡ true
  pub stopped : get_or (outcomes bottom version (room_in journal) (parts (files_in files) load) (set_out start memory journal)) file true ≡ false

abbrev pub UndoneKeepsStart : Type 0
UndoneKeepsStart =
    (memory : List ℕ) (bottom : ℕ) (journal load files : List ℕ) (start : Machine) (version : ℕ) (memory' journal' : List ℕ) (r : TraverseResult)
    → Traverses memory bottom journal load files start version memory' journal' r
    → (full : Bool) (file : ℕ) → r.answer ≡ Ok (stopped_by full file) → TakenBack bottom version journal load files start memory memory' file r

-- ---- where no file is undone under either rule, the rules agree: memory, machine and count

abbrev pub RulesAgree : Type 0
RulesAgree =
    (memory : List ℕ) (bottom : ℕ) (journal load files : List ℕ) (start : Machine)
    → (memory' journal' : List ℕ) (r : TraverseResult) → Traverses memory bottom journal load files start 1 memory' journal' r → r.answer ≡ Ok (Marked 0)
    → (memory'' journal'' : List ℕ) (r₂ : TraverseResult) → Traverses memory bottom journal load files start 2 memory'' journal'' r₂ → r₂.answer ≡ Ok Finished
    → (memory' ≡ memory'') × (r.machine ≡ r₂.machine) × (r.ran ≡ r₂.ran)

-- ---- the pairs

-- no address stands twice, and the pairs have room
pub record Distinct (journal journal' : List ℕ) (pairs : ℕ) : Type 0 where
  pub once : (i j : ℕ) → i < pairs → j < pairs → word_at journal' (2 * i) ≡ word_at journal' (2 * j) → i ≡ j
  pub room : 2 * pairs ≤ length journal

abbrev pub FileDistinct : Type 0
FileDistinct =
    (memory : List ℕ) (bottom : ℕ) (journal : List ℕ) (start : Machine) (count : ℕ) (memory' journal' : List ℕ) (r : FileResult)
    → FileRuns memory bottom journal start count memory' journal' r → Distinct journal journal' r.pairs

abbrev pub TraverseDistinct : Type 0
TraverseDistinct =
    (memory : List ℕ) (bottom : ℕ) (journal load files : List ℕ) (start : Machine) (version : ℕ) (memory' journal' : List ℕ) (r : TraverseResult)
    → Traverses memory bottom journal load files start version memory' journal' r → Distinct journal journal' r.pairs

-- whatever a file run, or a traverse under rule 2, answers, the pairs that it leaves in the journal, taken back from the memory that it leaves,
-- give the memory before
abbrev pub FileRestores : Type 0
FileRestores =
    (memory : List ℕ) (bottom : ℕ) (journal : List ℕ) (start : Machine) (count : ℕ) (memory' journal' : List ℕ) (r : FileResult)
    → FileRuns memory bottom journal start count memory' journal' r → undone r.pairs journal' memory' ≡ memory

abbrev pub JournalRestores : Type 0
JournalRestores =
    (memory : List ℕ) (bottom : ℕ) (journal load files : List ℕ) (start : Machine) (version : ℕ) → eqb version 1 ≡ false
    → (memory' journal' : List ℕ) (r : TraverseResult)
    → Traverses memory bottom journal load files start version memory' journal' r → undone r.pairs journal' memory' ≡ memory

-- under rule 1 those of the last file give the memory from before its words were laid
abbrev pub LastRestores : Type 0
LastRestores =
    (bottom room : ℕ) (t : Progress) (p : Part) → let u = one_file bottom 1 room t p in restored u.pairs u.memory ≡ t.memory

-- ---- with room for a pair for each word and instruction: answer, memory, registers, flags and counts of the journal before

pub record AsPlain (version : ℕ) (start : Machine) (memory memory' : List ℕ) (r : TraverseResult) (t : Plain) : Type 0 where
  pub answer : r.answer ≡ Ok (plain_answer version t)
  pub machine : r.machine ≡ plain_kept version t start t.machine
  pub words : memory' ≡ plain_kept version t memory t.memory
  pub ran : r.ran ≡ t.ran
  -- and of its pairs under rule 2 the first of each address
  pub firsts : eqb version 1 ≡ false → r.pairs ≡ length (noting [] t.pairs)

abbrev pub TraverseAsPlain : Type 0
TraverseAsPlain =
    (memory : List ℕ) (bottom : ℕ) (journal load files : List ℕ) (start : Machine) (version : ℕ) → 2 * wanted (files_in files) ≤ length journal
    → (memory' journal' : List ℕ) (r : TraverseResult) → Traverses memory bottom journal load files start version memory' journal' r
    → traverse_number r.answer ≡ 0
    → AsPlain version start memory memory' r (plain_traversed bottom version (parts (files_in files) load) (plain_out start memory))

-- ---- the bottom of memory stays, whatever is laid and run

abbrev pub TraverseKeepsBottom : Type 0
TraverseKeepsBottom =
    (memory : List ℕ) (bottom : ℕ) (journal load files : List ℕ) (start : Machine) (version : ℕ) (memory' journal' : List ℕ) (r : TraverseResult)
    → Traverses memory bottom journal load files start version memory' journal' r
    → take bottom memory' ≡ take bottom memory

-- and where no instruction that runs stores below it, a traverse that is carried out returns and leaves what it does with the bottom at 0

-- none of the files that are run does, asked of all its instructions
unfoldable pub never_below : (bottom version room : ℕ) → List Part → Progress → Bool
never_below bottom version room [] t = true
never_below bottom version room (p ∷ ps) t =
    let k = part_laid room (pairs_before version t) t.machine t.memory p in
    let u = one_file bottom version room t p in
    cond k.full true (never_stores_below bottom (file_board bottom) p.file.count k.run)
    && cond (taken_back version u) true (never_below bottom version room ps u)

abbrev pub TraverseAsLevel : Type 0
TraverseAsLevel =
    (memory : List ℕ) (bottom : ℕ) (journal load files : List ℕ) (start : Machine) (version : ℕ)
    → never_below bottom version (room_in journal) (parts (files_in files) load) (set_out start memory journal) ≡ true
    → (memory' journal' : List ℕ) (r : TraverseResult) → Traverses memory bottom journal load files start version memory' journal' r
    → traverse_number r.answer ≡ 0
    → (memory'' journal'' : List ℕ) (r₂ : TraverseResult) → Traverses memory 0 journal load files start version memory'' journal'' r₂
    → (r ≡ r₂) × (memory' ≡ memory'') × (journal' ≡ journal'')
