-- The waits of accesses one after the other, where the list begins again, and an empty list.
use Prim.Native.Nat.{ℕ, zero, suc, ◌+◌, ◌*◌, ◌≤◌, ◌<◌}
use mathlib.Core.Path.{◌≡◌, refl, sym, ap, ◌∙◌}
use mathlib.Core.Bool.{Bool, true, false, cond, ◌||◌}
use mathlib.Core.List.{List}
use native.Mathlib.Nat.{zero-add, suc-add, zero-mul, suc-mul}
use native.Mathlib.Numerals.{add-one}
use native.Mathlib.Omega.{arith}
use lib.Dec.{eqb, ltb}
use lib.ListN.{length, get_or-eq_default}
use borrow.Author.Tests.{ltb-true, ltb-false, lt-ltb, eqb-true}
use Rattle.model.specs.Waits.{wait_at, next_position, position_fits, wait_sum, position_after, ComesRound}

module _ (waits : List ℕ) where
  pub sum-add : (i j p : ℕ) → wait_sum waits p (i + j) ≡ wait_sum waits p i + wait_sum waits (position_after waits p i) j
  unfolding wait_sum position_after
  sum-add zero j p = rw (zero-add j, zero-add)
  sum-add (suc i) j p = rw suc-add (omega (arith, sum-add i j (next_position waits p)))

  pub position-add : (i j p : ℕ) → position_after waits p (i + j) ≡ position_after waits (position_after waits p i) j
  unfolding position_after
  position-add zero j p = rw zero-add
  position-add (suc i) j p = rw suc-add (position-add i j (next_position waits p))

  -- ---- one access

  -- past the list's end there is no entry
  pub no-wait : (p : ℕ) → length waits ≤ p → wait_at waits p ≡ 0
  unfolding wait_at
  no-wait p h = get_or-eq_default waits 0 {n = p} h

  -- one further, or the list begins again: for any fact about it
  pub next-either : (P : ℕ → Type 0) (p : ℕ) → (p + 1 < length waits → P (p + 1)) → (length waits ≤ p + 1 → P 0) → P (next_position waits p)
  unfolding next_position
  next-either P p further again = go (ltb (p + 1) (length waits)) refl
    where
      go : (t : Bool) → ltb (p + 1) (length waits) ≡ t → P (cond t (p + 1) 0)
      go true e = further (ltb-true (p + 1) (length waits) e)
      go false e = again (ltb-false (p + 1) (length waits) e)

  next-further : (p : ℕ) → p + 1 < length waits → next_position waits p ≡ p + 1
  next-further p h = next-either (λ (q : ℕ). q ≡ p + 1) p (λ _. refl) (λ past. omega arith)

  next-again : (p : ℕ) → length waits ≤ p + 1 → next_position waits p ≡ 0
  next-again p h = next-either (λ (q : ℕ). q ≡ 0) p (λ less. omega arith) (λ _. refl)

  pub next_low : (p most : ℕ) → length waits ≤ most → next_position waits p ≤ most
  next_low p most h = next-either (λ (q : ℕ). q ≤ most) p (λ less. omega arith) (λ _. omega arith)

  -- in a list with entries the next position has one
  pub next-below : (p : ℕ) → p < length waits → next_position waits p < length waits
  next-below p h = next-either (λ (q : ℕ). q < length waits) p (λ less. less) (λ _. omega arith)

  -- ---- positions that fit: the first, and with each the next

  pub first_fits : position_fits waits 0 ≡ true
  unfolding position_fits
  first_fits = refl

  below-fits : (p : ℕ) → p < length waits → position_fits waits p ≡ true
  unfolding position_fits
  below-fits p h = go (eqb p 0)
    where
      go : (t : Bool) → (t || ltb p (length waits)) ≡ true
      go true = refl
      go false = lt-ltb p (length waits) h

  -- a position that fits is no more than the list's length
  pub fits_low : (p most : ℕ) → length waits ≤ most → position_fits waits p ≡ true → p ≤ most
  unfolding position_fits
  fits_low p most short = go (eqb p 0) refl
    where
      go : (t : Bool) → eqb p 0 ≡ t → (t || ltb p (length waits)) ≡ true → p ≤ most
      go true e _ = omega (arith, eqb-true p 0 e)
      go false _ e = omega (arith, ltb-true p (length waits) e)

  -- a position that fits and has no entry is 0
  pub fits-past : (p : ℕ) → position_fits waits p ≡ true → length waits ≤ p → p ≡ 0
  unfolding position_fits
  fits-past p h past = go (eqb p 0) refl h
    where
      go : (t : Bool) → eqb p 0 ≡ t → (t || ltb p (length waits)) ≡ true → p ≡ 0
      go true e _ = eqb-true p 0 e
      go false _ e = omega (arith, ltb-true p (length waits) e)

  -- (any position is followed by one that fits; by another rule for the end, only one that fits would be)
  pub next_fits : (p : ℕ) → position_fits waits p ≡ true → position_fits waits (next_position waits p) ≡ true
  next_fits p _ = next-either (λ (q : ℕ). position_fits waits q ≡ true) p (below-fits (p + 1)) (λ _. first_fits)

  pub after-fits : (n p : ℕ) → position_fits waits p ≡ true → position_fits waits (position_after waits p n) ≡ true
  unfolding position_after
  after-fits zero p h = h
  after-fits (suc n) p h = after-fits n (next_position waits p) (next_fits p h)

  -- ---- an empty list: no waits, and position 0 stays

  module _ (none : length waits ≡ 0) where
    pub no-waits : (p n : ℕ) → wait_sum waits p n ≡ 0
    unfolding wait_sum
    no-waits p zero = refl
    no-waits p (suc n) = omega (arith, no-wait p (omega arith), no-waits (next_position waits p) n)

    pub position-stays : (n : ℕ) → position_after waits 0 n ≡ 0
    unfolding position_after
    position-stays zero = refl
    position-stays (suc n) = rw (next-again 0 (omega arith)) (position-stays n)

  -- ---- whole rounds

  one_further : (n : ℕ) → position_after waits 0 (suc n) ≡ next_position waits (position_after waits 0 n)
  unfolding position_after
  one_further n = ap (position_after waits 0) (sym (add-one n)) ∙ position-add n 1 0

  first_round : (i : ℕ) → i < length waits → position_after waits 0 i ≡ i
  unfolding position_after
  first_round zero h = refl
  first_round (suc i) h = one_further i ∙ ap (next_position waits) (first_round i (omega arith)) ∙ next-further i (omega arith) ∙ add-one i

  one-round : (n : ℕ) → length waits ≡ n → position_after waits 0 n ≡ 0
  unfolding position_after
  one-round zero e = refl
  one-round (suc n) e = one_further n ∙ ap (next_position waits) (first_round n (omega arith)) ∙ next-again n (omega arith)

  whole-rounds : (k i : ℕ) → position_after waits 0 (k * length waits + i) ≡ position_after waits 0 i
  whole-rounds zero i = rw (zero-mul, zero-add) refl
  whole-rounds (suc k) i =
      let L = length waits in
      let e : suc k * L + i ≡ L + (k * L + i) = rw (suc-mul k L) (omega arith) in
      ap (position_after waits 0) e ∙ position-add L (k * L + i) 0 ∙ ap (λ (p : ℕ). position_after waits p (k * L + i)) (one-round L refl) ∙ whole-rounds k i

pub comes-round : ComesRound
comes-round waits k i h = whole-rounds waits k i ∙ first_round waits i h
