-- CR 1: a traverse: for each file in turn its words are laid, r0 is set to its entry, and it runs; what an undone file leaves, under rule 1
-- and under rule 2. CR 11: words laid are noted in the journal as stores are; under rule 1 each file starts with the journal empty and its places
-- free again, under rule 2 the traverse has one journal.
use Rattle.std.specs.Prelude.{ℕ, ◌+◌, ◌^◌, Bool, false, not, cond, ◌&&◌, List, [], ◌∷◌, eqb, set}
use Rattle.model.specs.declared.Machine.{Machine}
use Rattle.model.specs.Words.{word_at, store_word, overlay}
use Rattle.model.specs.Interpreter.{machine_with, Run, begin}
use Rattle.model.specs.Journal.{Pair, Noted, within, fresh, run_noted, completes, journal_words}
use Rattle.interpreter.specs.Calls.{file_board}
use Rattle.traverses.specs.Files.{Part}

-- ---- laying words

abbrev pub with_memory : List ℕ → Run → Run
with_memory memory r =
    record { machine = r.machine; memory = memory; position = r.position; ran = r.ran; clocks = r.clocks; ending = r.ending }

-- a word laid is a store: it is noted, and where it needs one address more than there are pairs, the journal is full before it
unfoldable pub lay_one : (room : ℕ) → Noted → (place word : ℕ) → Noted
lay_one room k place word =
    let memory = k.run.memory in
    within room k (record { address = place; former = word_at memory place } ∷ []) (with_memory (store_word memory place word) k.run)

unfoldable pub lay_all : (room : ℕ) → Noted → (place : ℕ) → (words : List ℕ) → Noted
lay_all room k place [] = k
lay_all room k place (w ∷ ws) = lay_all room (lay_one room k place w) (place + 1) ws

-- ---- one file, from a machine, a memory and the pairs that the journal has

-- r0 at its entry; the other registers and the flags go on
abbrev pub entered : Machine → Part → Machine
entered m p = machine_with (set m.regs 0 p.file.entry) m.flags

-- its words laid
unfoldable pub part_laid : (room : ℕ) → List Pair → Machine → (memory : List ℕ) → Part → Noted
part_laid room pairs m memory p = lay_all room (fresh (begin (entered m p) memory 0) pairs) p.file.place p.words

-- then run without waits, as a file run is; where its words do not all fit, nothing runs
unfoldable pub part_noted : (bottom room : ℕ) → List Pair → Machine → (memory : List ℕ) → Part → Noted
part_noted bottom room pairs m memory p = run_noted (file_board bottom) room p.file.count (part_laid room pairs m memory p)

-- ---- the files one after the other

-- a traverse so far: the journal's pairs and its places, the files that were run, bit i for undone file i, the instructions that ran in the
-- last file run, and whether its journal was full
pub record Progress : Type 0 where
  pub machine : Machine
  pub memory : List ℕ
  pub pairs : List Pair
  pub places : List ℕ
  pub files : ℕ
  pub undone : ℕ
  pub ran : ℕ
  pub full : Bool

abbrev pub set_out : Machine → (memory journal : List ℕ) → Progress
set_out m memory journal =
    record { machine = m; memory = memory; pairs = []; places = journal; files = 0; undone = 0; ran = 0; full = false }

-- the pairs that the next file starts with; version 1 has rule 1
abbrev pub pairs_before : (version : ℕ) → Progress → List Pair
pairs_before version t = cond (eqb version 1) [] t.pairs

-- under rule 2 any undone file takes the traverse back, and later files are not run
abbrev pub taken_back : (version : ℕ) → Progress → Bool
taken_back version t = not (eqb version 1) && not (eqb t.undone 0)

module _ (bottom version room : ℕ) where
  -- the next file
  abbrev pub file_noted : Progress → Part → Noted
  file_noted t p = part_noted bottom room (pairs_before version t) t.machine t.memory p

  -- one file more; where it is undone, memory, registers and flags are as before its words were laid, and its pairs stay in the journal
  unfoldable pub one_file : Progress → Part → Progress
  one_file t p =
      let k = file_noted t p in
      let done = completes k in
      record {
        machine = cond done k.run.machine t.machine;
        memory = cond done k.run.memory t.memory;
        pairs = k.pairs;
        places = overlay (journal_words k.pairs) t.places;
        files = t.files + 1;
        undone = cond done t.undone (t.undone + 2 ^ t.files);
        ran = k.run.ran;
        full = k.full;
      }

  unfoldable pub traversed : List Part → Progress → Progress
  traversed [] t = t
  traversed (p ∷ ps) t = let u = one_file t p in cond (taken_back version u) u (traversed ps u)
