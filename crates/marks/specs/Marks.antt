-- For CR 11: a map that tells which addresses have a pair, so that a store need not search the journal. Its first 16,384 words are a table of the
-- memory's pages, of 1,024 addresses each: the number of the group of bits that a page has, or 0. Group g is the 32 words from
-- 16,384 + 32 g on, one bit for each address of its page. Groups are given to pages in turn, from 1 on, at a page's first pair, and how many are
-- given is the first word of group 0. A page without a group has no pairs, unless the groups are used up: then its pairs are searched for.
use Rattle.std.specs.Prelude.{ℕ, zero, suc, ◌+◌, ◌*◌, ◌/◌, ◌%◌, ◌^◌, ◌≤◌, ◌<◌, ◌≡◌, ◌≢◌, Bool, true, false, not, cond, ◌&&◌, ◌||◌, List, eqb, ltb, leb, length, take, replicate}
use Rattle.std.specs.Int.Bits.{bit_or}
use Rattle.std.proofs.lemmas.List.Edits.{sets}
use Rattle.model.specs.Words.{bit, word_at, store_word}
use Rattle.model.specs.Journal.{Pair, has_pair, room_in, journal_words, noted}
use Rattle.marks.specs.declared.Noting.{Noting}

-- ---- the map

-- the group of an address's page, and how many groups are given
abbrev pub group_of : (map : List ℕ) → (address : ℕ) → ℕ
group_of map address = word_at map (address / 1024)

abbrev pub given : (map : List ℕ) → ℕ
given map = word_at map 16384

-- whether there is a group for one page more; the bound keeps the number of groups a word, and a map of 49,184 words ends long before it
abbrev pub spare : (map : List ℕ) → Bool
spare map = ltb (given map) 65535 && leb (16384 + 32 * (given map + 2)) (length map)

-- where an address has its bit, and the bit
abbrev pub bit_place : (group address : ℕ) → ℕ
bit_place group address = 16384 + 32 * group + address % 1024 / 32

unfoldable pub marked : (map : List ℕ) → (address : ℕ) → Bool
marked map address = bit (word_at map (bit_place (group_of map address) address)) (address % 32)

-- whether its page has a group and its bit is set
abbrev pub has_mark : (map : List ℕ) → (address : ℕ) → Bool
has_mark map address = not (eqb (group_of map address) 0) && marked map address

-- the map with an address's bit set
unfoldable pub with_bit : (map : List ℕ) → (address : ℕ) → List ℕ
with_bit map address =
    let at = bit_place (group_of map address) address in
    store_word map at (bit_or (word_at map at) (2 ^ (address % 32)))

-- the map with the next group, cleared, given to an address's page
unfoldable pub with_group : (map : List ℕ) → (address : ℕ) → List ℕ
with_group map address =
    let next = given map + 1 in
    store_word (store_word (sets map (16384 + 32 * next) (replicate 32 0)) 16384 next) (address / 1024) next

-- the map with an address marked, as far as there are groups
unfoldable pub with_mark : (map : List ℕ) → (address : ℕ) → List ℕ
with_mark map address =
    cond (eqb (group_of map address) 0) (cond (spare map) (with_bit (with_group map address) address) map) (with_bit map address)

-- the map with no group given, for a memory of so many pages
unfoldable pub forgotten : (map : List ℕ) → (pages : ℕ) → List ℕ
forgotten map pages = store_word (sets map 0 (replicate pages 0)) 16384 0

-- ---- whether an address has a pair

-- among the first pairs in a journal's places
unfoldable pub listed : (journal : List ℕ) → (pairs address : ℕ) → Bool
listed journal zero address = false
listed journal (suc k) address = listed journal k address || eqb (word_at journal (2 * k)) address

-- there are no more pairs than there is room for
abbrev pub searched : (journal : List ℕ) → (pairs address : ℕ) → Bool
searched journal pairs address = cond (leb pairs (room_in journal)) (listed journal pairs address) false

unfoldable pub known : (map journal : List ℕ) → (pairs address : ℕ) → Bool
known map journal pairs address =
    cond (eqb (group_of map address) 0) (cond (spare map) false (searched journal pairs address)) (marked map address)

-- ---- a store noted: nothing changes where its address has a pair, nor where the journal is full

abbrev pub noting_at : (full : Bool) → (pairs : ℕ) → Noting
noting_at full pairs = record { full = full; pairs = pairs }

pub record Notes (map journal : List ℕ) (pairs address former : ℕ) (map' journal' : List ℕ) (r : Noting) : Type 0 where
  pub result : r ≡ cond (known map journal pairs address) (noting_at false pairs) (cond (leb (room_in journal) pairs) (noting_at true pairs) (noting_at false (pairs + 1)))
  pub places : journal' ≡ cond (known map journal pairs address) journal (cond (leb (room_in journal) pairs) journal (noted journal pairs address former))
  pub marks : map' ≡ cond (known map journal pairs address) map (cond (leb (room_in journal) pairs) map (with_mark map address))

-- ---- what the map tells of a journal's pairs, for the addresses below `words`

pub record Tells (map journal : List ℕ) (pairs : List Pair) (words : ℕ) : Type 0 where
  pub most : words ≤ 16_777_216
  -- the groups that are given lie in the map, and there is one at least to give
  pub long : 16384 + 32 * (given map + 1) ≤ length map
  -- a page's group is one that is given, and no other page's
  pub below : (a : ℕ) → a < words → group_of map a ≤ given map
  pub apart : (a b : ℕ) → a < words → b < words → group_of map a ≢ 0 → group_of map a ≡ group_of map b → a / 1024 ≡ b / 1024
  -- the bits are those of the pairs, and a page without a group has no pairs while there are groups to give
  pub told : (a : ℕ) → a < words → group_of map a ≢ 0 → marked map a ≡ has_pair pairs a
  pub none : (a : ℕ) → a < words → group_of map a ≡ 0 → spare map ≡ true → has_pair pairs a ≡ false
  -- the pairs are in the journal's first places
  pub front : take (2 * length pairs) journal ≡ journal_words pairs
