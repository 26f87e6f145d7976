-- What the code keeps of one store: the pair in the journal's places, the mark in the map, and how many pairs there are. CR 11. A run without a journal
-- has a map of no words.
use Rattle.std.specs.Prelude.{ℕ, ◌+◌, ◌≡◌, Bool, true, false, not, cond, ◌||◌, List, eqb, leb, length}
use Rattle.model.specs.Words.{store_word}
use Rattle.model.specs.Journal.{room_in, noted}
use Rattle.marks.specs.declared.Noting.{Noting}
use Rattle.marks.specs.Marks.{known, with_mark, noting_at}

-- it is passed by where no journal is kept, or where its address has a pair; else the journal is full, or a pair is noted
abbrev pub passed_by : (map journal : List ℕ) → (pairs address : ℕ) → Bool
passed_by map journal pairs address = eqb (length map) 0 || known map journal pairs address

abbrev pub no_room : (journal : List ℕ) → (pairs : ℕ) → Bool
no_room journal pairs = leb (room_in journal) pairs

-- whether the journal is full, and the number of its pairs
abbrev pub kept_noting : (journal map : List ℕ) → (pairs : ℕ) → (stored : Bool) → (address : ℕ) → Noting
kept_noting journal map pairs stored address =
    cond (not stored || passed_by map journal pairs address) (noting_at false pairs)
    (cond (no_room journal pairs) (noting_at true pairs) (noting_at false (pairs + 1)))

-- what is kept of a store that was done; where the journal is full it is taken back
pub record Keeps (memory journal map : List ℕ) (pairs : ℕ) (stored : Bool) (address former : ℕ) (memory' journal' map' : List ℕ) (r : Noting) : Type 0 where
  pub result : r ≡ kept_noting journal map pairs stored address
  pub words : memory' ≡ cond (not stored || passed_by map journal pairs address) memory (cond (no_room journal pairs) (store_word memory address former) memory)
  pub places : journal' ≡ cond (not stored || passed_by map journal pairs address) journal (cond (no_room journal pairs) journal (noted journal pairs address former))
  pub marks : map' ≡ cond (not stored || passed_by map journal pairs address) map (cond (no_room journal pairs) map (with_mark map address))
