-- What the code does to a map and asks of a journal: a bit set, words cleared, an address searched for, a store noted.
use Prim.Native.Nat.{ℕ, zero, suc, ◌+◌, ◌-◌, ◌*◌, ◌/◌, ◌%◌, ◌^◌, ◌≤◌, ◌<◌, min}
use mathlib.Core.Path.{◌≡◌, refl, sym, ap, ◌∙◌}
use mathlib.Core.Bool.{Bool, true, false, not, cond, ◌&&◌, ◌||◌}
use mathlib.Core.List.{List, [], ◌∷◌}
use native.Mathlib.Nat.{div-eq_of_lt, zero-div, mod-lt, mod-eq_of_lt, one-mul, pow-suc}
use native.Mathlib.Omega.{arith}
use lib.Bits.{bit_or, or_shr, or_mod}
use lib.Dec.{eqb, ltb}
use lib.ListN.{length, set, replicate}
use lib.Pow.{pow-add, pow-lt, shl-shr}
use lib.Seq.{sets, get_or-set_other}
use borrow.Author.Tests.{eqb-true, eqb-false, ltb-true, ltb-false, leb-true, le-leb, lt-leb}
use Rattle.std.specs.List.{list_any, range_with_len}
use Rattle.model.specs.Words.{field, bit, word_at, store_word}
use Rattle.model.specs.Journal.{room_in, noted}
use Rattle.model.proofs.Stores.{sets-out}
use Rattle.marks.specs.Marks.{group_of, given, spare, marked, has_mark, with_bit, with_group, with_mark, listed, searched, known, noting_at, Notes}

-- ---- tests

pub or-false : (t : Bool) → (t || false) ≡ t
or-false true = refl
or-false false = refl

pub or_assoc : (x y z : Bool) → ((x || y) || z) ≡ (x || (y || z))
or_assoc true y z = refl
or_assoc false y z = refl

-- ---- one word

-- of a power of two only its own bit
above : (d i : ℕ) → 2 ^ (suc d + i) / 2 ^ i % 2 ≡ 0
above d i = rw (pow-add 2 (suc d) i, shl-shr (2 ^ suc d) i, pow-suc 2 d) (omega arith)

same : (i : ℕ) → 2 ^ i / 2 ^ i % 2 ≡ 1
same i = ap (λ (n : ℕ). n / 2 ^ i % 2) (sym (one-mul (2 ^ i))) ∙ ap (λ (n : ℕ). n % 2) (shl-shr 1 i)

below : (s i : ℕ) → s < i → 2 ^ s / 2 ^ i % 2 ≡ 0
below s i h = ap (λ (n : ℕ). n % 2) (div-eq_of_lt (pow-lt h))

power_bit : (s i : ℕ) → 2 ^ s / 2 ^ i % 2 ≡ cond (eqb s i) 1 0
power_bit s i = go (eqb s i) refl (ltb s i) refl
  where
    go : (b : Bool) → eqb s i ≡ b → (l : Bool) → ltb s i ≡ l → 2 ^ s / 2 ^ i % 2 ≡ cond b 1 0
    go true e l f = rw (eqb-true s i e) (same i)
    go false e true f = below s i (ltb-true s i f)
    go false e false f =
        let differ = eqb-false s i e in
        let far : s ≡ suc (s - i - 1) + i = omega (arith, ltb-false s i f) in
        ap (λ (n : ℕ). 2 ^ n / 2 ^ i % 2) far ∙ above (s - i - 1) i

-- two bits
or_two : (r : ℕ) → r < 2 → (b : Bool) → eqb (bit_or r (cond b 1 0)) 1 ≡ (eqb r 1 || b)
or_two zero h true = refl
or_two zero h false = refl
or_two (suc zero) h true = refl
or_two (suc zero) h false = refl
or_two (suc (suc r)) h b = absurd (omega arith)

pub or_bit : (x s i : ℕ) → bit (bit_or x (2 ^ s)) i ≡ (bit x i || eqb s i)
unfolding bit field
or_bit x s i =
    ap (λ (n : ℕ). eqb (n % 2 ^ 1) 1) (or_shr x (2 ^ s) i)
    ∙ ap (λ (n : ℕ). eqb n 1) (or_mod (x / 2 ^ i) (2 ^ s / 2 ^ i) 1)
    ∙ ap (λ (n : ℕ). eqb (bit_or (x / 2 ^ i % 2) n) 1) (power_bit s i)
    ∙ or_two (x / 2 ^ i % 2) (mod-lt (x / 2 ^ i) (omega arith)) (eqb s i)

pub no-bit : (i : ℕ) → bit 0 i ≡ false
unfolding bit field
no-bit i = rw (zero-div (2 ^ i))

-- a bit in its word, as the code shifts it
pub shifted : (a : ℕ) → 1 * 2 ^ (a % 32) % 2 ^ 32 ≡ 2 ^ (a % 32)
shifted a = rw one-mul (mod-eq_of_lt (pow-lt (mod-lt a (omega arith))))

-- ---- words cleared

pub clears_on : (map : List ℕ) (end i : ℕ) → i < end
    → sets (store_word map i 0) (i + 1) (replicate (end - (i + 1)) 0) ≡ sets map i (replicate (end - i) 0)
clears_on map end i h =
    let f : i + 1 ≡ suc i = omega arith in
    let e : suc (end - (i + 1)) ≡ end - i = omega arith in
    ap (λ (j : ℕ). sets (store_word map i 0) j (replicate (end - (i + 1)) 0)) f
    ∙ ap (λ (n : ℕ). sets map i (replicate n 0)) e

-- where the map or the range ends nothing is left to clear
pub cleared_all : (map : List ℕ) (end i : ℕ) → min (length map) end ≤ i → sets map i (replicate (end - i) 0) ≡ map
cleared_all map end i h = go (ltb i (length map)) refl
  where
    go : (b : Bool) → ltb i (length map) ≡ b → sets map i (replicate (end - i) 0) ≡ map
    go true e =
        let less : i < length map = ltb-true i (length map) e in
        let none : end - i ≡ 0 = omega arith in
        ap (λ (n : ℕ). sets map i (replicate n 0)) none
    go false e = sets-out map i (replicate (end - i) 0) (ltb-false i (length map) e)

set-zero : (l : List ℕ) (i : ℕ) → word_at (set l i 0) i ≡ 0
set-zero [] i = refl
set-zero (x ∷ l) zero = refl
set-zero (x ∷ l) (suc i) = set-zero l i

pub sets-before : (vs l : List ℕ) (at j : ℕ) → j < at → word_at (sets l at vs) j ≡ word_at l j
sets-before [] l at j h = refl
sets-before (v ∷ vs) l at j h = sets-before vs (set l at v) (suc at) j (omega arith) ∙ get_or-set_other l at j v 0 (λ e. omega arith)

pub cleared : (n i : ℕ) (l : List ℕ) (at : ℕ) → i < n → word_at (sets l at (replicate n 0)) (at + i) ≡ 0
cleared zero i l at h = absurd (omega arith)
cleared (suc n) zero l at h =
    let e : at + 0 ≡ at = omega arith in
    ap (word_at (sets (set l at 0) (suc at) (replicate n 0))) e ∙ sets-before (replicate n 0) (set l at 0) (suc at) at (omega arith) ∙ set-zero l at
cleared (suc n) (suc i) l at h =
    let e : at + suc i ≡ suc at + i = omega arith in
    ap (word_at (sets (set l at 0) (suc at) (replicate n 0))) e ∙ cleared n i (set l at 0) (suc at) (omega arith)

-- ---- the search

any-one-more : (test : ℕ → Bool) (n a : ℕ) → list_any test (range_with_len a (suc n)) ≡ (list_any test (range_with_len a n) || test (a + n))
any-one-more test zero a =
    let e : a ≡ a + 0 = omega arith in
    or-false (test a) ∙ ap test e
any-one-more test (suc n) a =
    let e : a + 1 + n ≡ a + suc n = omega arith in
    ap (λ (t : Bool). test a || t) (any-one-more test n (a + 1) ∙ ap (λ (k : ℕ). list_any test (range_with_len (a + 1) n) || test k) e)
    ∙ sym (or_assoc (test a) (list_any test (range_with_len (a + 1) n)) (test (a + suc n)))

-- the places looked at in turn
pub listed_range : (journal : List ℕ) (address n : ℕ)
    → list_any (λ (k : ℕ). eqb (word_at journal (2 * k)) address) (range_with_len 0 n) ≡ listed journal n address
unfolding listed
listed_range journal address zero = refl
listed_range journal address (suc n) =
    let e : 0 + n ≡ n = omega arith in
    any-one-more (λ (k : ℕ). eqb (word_at journal (2 * k)) address) n 0 ∙ rw (e, listed_range journal address n)

-- ---- whether an address has a pair, and a store noted

module _ (map journal : List ℕ) (pairs address : ℕ) where
  pub known-marked : has_mark map address ≡ true → known map journal pairs address ≡ true
  unfolding known
  known-marked = go (eqb (group_of map address) 0)
    where
      go : (t : Bool) → (not t && marked map address) ≡ true → cond t (cond (spare map) false (searched journal pairs address)) (marked map address) ≡ true
      go true e = cc
      go false e = e

  pub known-paged : has_mark map address ≡ false → eqb (group_of map address) 0 ≡ false → false ≡ known map journal pairs address
  unfolding known
  known-paged e f = rw f (sym (rw f at e))

  pub known-spare : eqb (group_of map address) 0 ≡ true → spare map ≡ true → false ≡ known map journal pairs address
  unfolding known
  known-spare e f = rw (e, f)

  pub known-searched : eqb (group_of map address) 0 ≡ true → spare map ≡ false → searched journal pairs address ≡ known map journal pairs address
  unfolding known
  known-searched e f = rw (e, f)

  pub notes-known : (former : ℕ) → known map journal pairs address ≡ true → Notes map journal pairs address former map journal (noting_at false pairs)
  notes-known former e = record { result = rw e; places = rw e; marks = rw e }

  pub notes-full : (former : ℕ) → known map journal pairs address ≡ false → room_in journal ≤ pairs
      → Notes map journal pairs address former map journal (noting_at true pairs)
  notes-full former e h =
      let f = le-leb (room_in journal) pairs h in
      record { result = rw (e, f); places = rw (e, f); marks = rw (e, f) }

  pub notes-new : (former : ℕ) → known map journal pairs address ≡ false → pairs < room_in journal
      → Notes map journal pairs address former (with_mark map address) (noted journal pairs address former) (noting_at false (pairs + 1))
  notes-new former e h =
      let f = lt-leb (room_in journal) pairs h in
      record { result = rw (e, f); places = rw (e, f); marks = rw (e, f) }

-- ---- a group to give

both-second : (t u : Bool) → (t && u) ≡ true → u ≡ true
both-second true u e = e
both-second false u e = cc

module _ (map : List ℕ) (e : spare map ≡ true) where
  pub spare-fits : 16384 + 32 * (given map + 2) ≤ length map
  spare-fits = leb-true (16384 + 32 * (given map + 2)) (length map) (both-second (ltb (given map) 65535) _ e)

-- ---- a mark

module _ (map : List ℕ) (address : ℕ) where
  pub mark_paged : eqb (group_of map address) 0 ≡ false → with_bit map address ≡ with_mark map address
  unfolding with_mark
  mark_paged e = rw e

  pub mark_given : eqb (group_of map address) 0 ≡ true → spare map ≡ true → with_bit (with_group map address) address ≡ with_mark map address
  unfolding with_mark
  mark_given e f = rw (e, f)

  pub mark_none : eqb (group_of map address) 0 ≡ true → spare map ≡ false → map ≡ with_mark map address
  unfolding with_mark
  mark_none e f = rw (e, f)
