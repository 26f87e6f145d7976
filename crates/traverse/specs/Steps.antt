-- CR 1 and CR 11: what the parts of a traverse leave, with journal and map as the code keeps them (engine's `Kept`): the words of a file, one file, one
-- file more.
use Rattle.std.specs.Prelude.{ℕ, ◌+◌, ◌/◌, ◌^◌, ◌≤◌, ◌<◌, min, ◌≡◌, Bool, true, false, not, cond, ◌&&◌, List, [], ◌∷◌, eqb, length, take, drop}
use Rattle.model.specs.declared.Machine.{Machine}
use Rattle.model.specs.Words.{word_at, store_word}
use Rattle.model.specs.Interpreter.{goes_on, begin}
use Rattle.model.specs.Journal.{room_in}
use Rattle.marks.specs.declared.Noting.{Noting}
use Rattle.marks.specs.Marks.{forgotten, Notes}
use Rattle.engine.specs.declared.Ended.{Ended}
use Rattle.engine.specs.Keeping.{Kept, kept_after, keep_run}
use Rattle.journal.specs.Undo.{undone}
use Rattle.interpreter.specs.declared.FileEnding.{FileEnding}
use Rattle.interpreter.specs.Calls.{file_board, file_answer_of}
use Rattle.traverses.specs.declared.File.{File}
use Rattle.traverses.specs.Files.{file_at, Part}
use Rattle.traverses.specs.Traverse.{with_memory, entered}
use Rattle.traverse.specs.declared.file.FileEnd.{FileEnd}
use Rattle.traverse.specs.declared.walk.Walk.{Walk}

-- ---- laying words

-- a word laid, unless the journal is full
pub record LaysOne (memory journal map : List ℕ) (pairs address word : ℕ) (memory' journal' map' : List ℕ) (r : Noting) : Type 0 where
  pub notes : Notes map journal pairs address (word_at memory address) map' journal' r
  pub words : memory' ≡ cond r.full memory (store_word memory address word)

unfoldable pub lay_kept_one : Kept → (place word : ℕ) → Kept
lay_kept_one k place word =
    let memory = k.run.memory in
    cond k.full k
    (kept_after k (record { address = place; former = word_at memory place } ∷ []) (with_memory (store_word memory place word) k.run))

unfoldable pub lay_kept : Kept → (place : ℕ) → (words : List ℕ) → Kept
lay_kept k place [] = k
lay_kept k place (w ∷ ws) = lay_kept (lay_kept_one k place w) (place + 1) ws

-- the addresses fit 32 bits, and there is a map
pub record LaysFit (map load : List ℕ) (place : ℕ) : Type 0 where
  pub lies : place + length load ≤ 2 ^ 32
  pub some : 0 < length map

-- whatever machine runs afterwards
abbrev pub laid_at : Machine → (memory journal map : List ℕ) → (pairs : ℕ) → (full : Bool) → Kept
laid_at m memory journal map pairs full =
    record { run = begin m memory 0; places = journal; map = map; pairs = pairs; full = full }

abbrev pub Lays : (memory journal map : List ℕ) → (pairs : ℕ) → (load : List ℕ) → (place : ℕ) → (memory' journal' map' : List ℕ) → Noting → Type 0
Lays memory journal map pairs load place memory' journal' map' r =
    (m : Machine) → lay_kept (laid_at m memory journal map pairs false) place load ≡ laid_at m memory' journal' map' r.pairs r.full

-- ---- one file

abbrev pub file_kept : (memory : List ℕ) → (bottom : ℕ) → (journal map : List ℕ) → (pairs : ℕ) → Part → Machine → Kept
file_kept memory bottom journal map pairs p m =
    keep_run (file_board bottom) p.file.count (lay_kept (laid_at (entered m p) memory journal map pairs false) p.file.place p.words)

abbrev pub kept_done : Kept → Bool
kept_done k = not k.full && goes_on k.run.ending

-- whether a file finished, and whether it found the journal full
abbrev pub is_finished : FileEnding → Bool
is_finished FileEnding.Finished = true
is_finished FileEnding.Undone = false
is_finished FileEnding.Full = false

abbrev pub is_full : FileEnding → Bool
is_full FileEnding.Finished = false
is_full FileEnding.Undone = false
is_full FileEnding.Full = true

abbrev pub end_of : Machine → Kept → FileEnd
end_of m k =
    record { ending = file_answer_of k.full k.run.ending; machine = cond (kept_done k) k.run.machine m; ran = k.run.ran; pairs = k.pairs }

-- where it does not finish, all that the journal holds is taken back
abbrev pub kept_words : Kept → List ℕ
kept_words k = cond (kept_done k) k.run.memory (undone (min k.pairs (room_in k.places)) k.places k.run.memory)

-- the end of a file whose run has ended
pub record Ends (memory journal : List ℕ) (m : Machine) (e : Ended) (memory' : List ℕ) (r : FileEnd) : Type 0 where
  pub result : r ≡ record { ending = file_answer_of e.full e.ending; machine = cond (not e.full && goes_on e.ending) e.machine m; ran = e.ran; pairs = e.pairs }
  pub words : memory' ≡ cond (not e.full && goes_on e.ending) memory (undone (min e.pairs (room_in journal)) journal memory)

abbrev pub FileFits : (map load : List ℕ) → File → Type 0
FileFits map load f = LaysFit map load f.place

pub record FileEnds (memory : List ℕ) (bottom : ℕ) (journal map : List ℕ) (pairs : ℕ) (load : List ℕ) (f : File) (m : Machine) (memory' journal' map' : List ℕ) (e : FileEnd) : Type 0 where
  pub result : e ≡ end_of m (file_kept memory bottom journal map pairs (record { file = f; words = load }) m)
  pub words : memory' ≡ kept_words (file_kept memory bottom journal map pairs (record { file = f; words = load }) m)
  pub places : journal' ≡ (file_kept memory bottom journal map pairs (record { file = f; words = load }) m).places
  pub marks : map' ≡ (file_kept memory bottom journal map pairs (record { file = f; words = load }) m).map

-- ---- one file more

abbrev pub outset : Machine → Walk
outset start = record { machine = start; pairs = 0; undone = 0; ran = 0; full = false; at = 0 }

-- file i with its words, after those laid so far
abbrev pub part_at : (files load : List ℕ) → (i at : ℕ) → Part
part_at files load i at = record { file = file_at files i; words = take (file_at files i).size (drop at load) }

-- under rule 1 the map forgets, and the pairs are counted anew
abbrev pub map_before : (version words : ℕ) → (map : List ℕ) → List ℕ
map_before version words map = cond (eqb version 1) (forgotten map (words / 1024 + 1)) map

abbrev pub count_before : (version pairs : ℕ) → ℕ
count_before version pairs = cond (eqb version 1) 0 pairs

abbrev pub next_kept : (memory : List ℕ) → (bottom : ℕ) → (journal map load files : List ℕ) → (version i : ℕ) → Walk → Kept
next_kept memory bottom journal map load files version i w =
    file_kept memory bottom journal (map_before version (length memory) map) (count_before version w.pairs) (part_at files load i w.at) w.machine

-- the file is one of up to 64, its words are there, and its addresses fit
pub record NextFits (map load files : List ℕ) (i : ℕ) (w : Walk) : Type 0 where
  pub number : i < 64
  pub mask : w.undone < 2 ^ i
  pub laid : w.at + (file_at files i).size ≤ length load
  pub lies : (file_at files i).place + (file_at files i).size ≤ 2 ^ 32
  pub some : 0 < length map

abbrev pub walk_of : Kept → (i size : ℕ) → Walk → Walk
walk_of k i size w =
    record {
      machine = cond (kept_done k) k.run.machine w.machine;
      pairs = k.pairs;
      undone = cond (kept_done k) w.undone (w.undone + 2 ^ i);
      ran = k.run.ran;
      full = k.full;
      at = w.at + size;
    }

pub record Goes (memory : List ℕ) (bottom : ℕ) (journal map load files : List ℕ) (version i : ℕ) (w : Walk) (memory' journal' map' : List ℕ) (r : Walk) : Type 0 where
  pub result : r ≡ walk_of (next_kept memory bottom journal map load files version i w) i (file_at files i).size w
  pub words : memory' ≡ kept_words (next_kept memory bottom journal map load files version i w)
  pub places : journal' ≡ (next_kept memory bottom journal map load files version i w).places
  pub marks : map' ≡ (next_kept memory bottom journal map load files version i w).map
