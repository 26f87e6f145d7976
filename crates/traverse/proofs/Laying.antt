-- Laying words: one word, where the loop stands after j of them, one more, and its ends.
use Prim.Native.Nat.{ℕ, ◌+◌, ◌≤◌, ◌<◌}
use mathlib.Core.Path.{◌≡◌, refl, sym, ap, ◌∙◌}
use mathlib.Core.Bool.{Bool, true, false}
use mathlib.Core.List.{List, [], ◌∷◌}
use native.Mathlib.Numerals.{add-one}
use native.Mathlib.Nat.{add-zero}
use native.Mathlib.Omega.{arith}
use lib.Dec.{eqb, leb}
use lib.ListN.{length, drop, drop_of_length-le}
use lib.Seq.{drop-cons}
use borrow.Author.Tests.{ne_eqb}
use Rattle.model.specs.declared.Machine.{Machine}
use Rattle.model.specs.Words.{word_at, store_word}
use Rattle.model.specs.Journal.{room_in}
use Rattle.marks.specs.declared.Noting.{Noting}
use Rattle.marks.specs.Marks.{known, Notes}
use Rattle.engine.specs.Keeping.{Kept, kept_after}
use Rattle.traverse.specs.Steps.{LaysOne, lay_kept_one, lay_kept, laid_at, Lays}

-- ---- one word

module _ (memory journal map : List ℕ) (pairs address word : ℕ) {former : ℕ} {map' journal' : List ℕ} {r : Noting} (e : former ≡ word_at memory address)
    (h : Notes map journal pairs address former map' journal' r) where
  pub lays_none : r.full ≡ true → LaysOne memory journal map pairs address word memory journal' map' r
  lays_none f = record { notes = rw e at h; words = rw f }

  pub lays_word : r.full ≡ false → {memory' : List ℕ} → memory' ≡ store_word memory address word
      → LaysOne memory journal map pairs address word memory' journal' map' r
  lays_word f q = record { notes = rw e at h; words = rw f q }

one-laid : {memory journal map : List ℕ} {pairs address word : ℕ} {memory' journal' map' : List ℕ} {r : Noting} → 0 < length map
    → LaysOne memory journal map pairs address word memory' journal' map' r
    → (m : Machine) → lay_kept_one (laid_at m memory journal map pairs false) address word ≡ laid_at m memory' journal' map' r.pairs r.full
unfolding lay_kept_one kept_after
one-laid {memory} {journal} {map} {pairs} {address} {word} {memory'} {journal'} {map'} {r} some h m =
    go (known map journal pairs address) refl (leb (room_in journal) pairs) refl
  where
    go : (x : Bool) → known map journal pairs address ≡ x → (y : Bool) → leb (room_in journal) pairs ≡ y
        → lay_kept_one (laid_at m memory journal map pairs false) address word ≡ laid_at m memory' journal' map' r.pairs r.full
    go x c y d =
        let lent : eqb (length map) 0 ≡ false = ne_eqb (length map) 0 (λ q. absurd (omega arith)) in
        by x y c d lent
      where
        by : (x y : Bool) → known map journal pairs address ≡ x → leb (room_in journal) pairs ≡ y → eqb (length map) 0 ≡ false
            → lay_kept_one (laid_at m memory journal map pairs false) address word ≡ laid_at m memory' journal' map' r.pairs r.full
        by true y c d lent =
            let result = rw c at h.notes.result in
            rw (lent, c, rw result at h.words, rw c at h.notes.places, rw c at h.notes.marks, result)
        by false true c d lent =
            let result = rw (c, d) at h.notes.result in
            rw (lent, c, d, rw result at h.words, rw (c, d) at h.notes.places, rw (c, d) at h.notes.marks, result)
        by false false c d lent =
            let result = rw (c, d) at h.notes.result in
            rw (lent, c, d, rw result at h.words, rw (c, d) at h.notes.places, rw (c, d) at h.notes.marks, result)

-- full, no word more is laid
pub full-lays : (ws : List ℕ) (k : Kept) (place : ℕ) → k.full ≡ true → lay_kept k place ws ≡ k
unfolding lay_kept lay_kept_one
full-lays [] k place e = refl
full-lays (w ∷ ws) k place e = ap (λ (x : Kept). lay_kept x (place + 1) ws) (rw e) ∙ full-lays ws k (place + 1) e

-- ---- the loop

module _ (memory₀ journal₀ map₀ : List ℕ) (pairs₀ : ℕ) (load : List ℕ) (place : ℕ) where
  pub record At (memory journal map : List ℕ) (noted j : ℕ) : Type 0 where
    pub rest : (m : Machine) → lay_kept (laid_at m memory journal map noted false) (place + j) (drop j load) ≡ lay_kept (laid_at m memory₀ journal₀ map₀ pairs₀ false) place load
    pub marks : length map ≡ length map₀

pub begins : {memory journal map : List ℕ} {pairs : ℕ} {load : List ℕ} {place : ℕ} → At memory journal map pairs load place memory journal map pairs 0
begins = record { rest = λ m. rw add-zero; marks = refl }

module _ {memory₀ journal₀ map₀ : List ℕ} {pairs₀ : ℕ} {load : List ℕ} {place : ℕ} {memory journal map : List ℕ} {noted j : ℕ}
    (a : At memory₀ journal₀ map₀ pairs₀ load place memory journal map noted j) where
  module _ (some : 0 < length map₀) (less : j < length load) {memory' journal' map' : List ℕ} {r : Noting}
      (h : LaysOne memory journal map noted (place + j) (word_at load j) memory' journal' map' r) where
    next : (m : Machine) → lay_kept (laid_at m memory' journal' map' r.pairs r.full) (place + j + 1) (drop (j + 1) load) ≡ lay_kept (laid_at m memory₀ journal₀ map₀ pairs₀ false) place load
    unfolding lay_kept
    next m =
        let e : drop j load ≡ word_at load j ∷ drop (j + 1) load = rw add-one (drop-cons load j 0 less) in
        ap (λ (k : Kept). lay_kept k (place + j + 1) (drop (j + 1) load)) (sym (one-laid (omega (arith, a.marks, some)) h m)) ∙ (rw e at (a.rest m))

    pub turn : r.full ≡ false → length map' ≡ length map → At memory₀ journal₀ map₀ pairs₀ load place memory' journal' map' r.pairs (j + 1)
    turn f lp =
        let step : place + (j + 1) ≡ place + j + 1 = omega arith in
        record { rest = λ m. rw step (rw f at (next m)); marks = lp ∙ a.marks }

    pub stops : r.full ≡ true → Lays memory₀ journal₀ map₀ pairs₀ load place memory' journal' map' r
    stops f m = sym (next m) ∙ full-lays (drop (j + 1) load) (laid_at m memory' journal' map' r.pairs r.full) (place + j + 1) f

  pub ends : length load ≤ j → Lays memory₀ journal₀ map₀ pairs₀ load place memory journal map (record { full = false; pairs = noted })
  unfolding lay_kept
  ends past m =
      let e : drop j load ≡ [] = drop_of_length-le load {i = j} past in
      sym (a.rest m) ∙ rw e
