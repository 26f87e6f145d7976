-- Digits: how many there are, one more of them in a buffer, and how many places a number takes.
use Prim.Native.Nat.{ℕ, zero, suc, ◌+◌, ◌-◌, ◌*◌, ◌/◌, ◌%◌, ◌^◌, ◌≤◌, ◌<◌}
use mathlib.Core.Path.{◌≡◌, refl, sym, ap, ◌∙◌}
use mathlib.Core.Bool.{Bool, true, false, cond}
use mathlib.Core.List.{List, [], ◌∷◌}
use native.Mathlib.Nat.{pow-suc, div-lt_iff_lt-mul}
use native.Mathlib.Omega.{arith}
use lib.Dec.{ltb}
use lib.ListN.{length, set, length-append}
use lib.Seq.{sets}
use borrow.Author.Tests.{lt-ltb, le-ltb, ltb-false}
use Rattle.model.proofs.Stores.{last-first}
use Rattle.text.specs.Text.{digit, digits, digit_count, decimal}

module _ (base : ℕ) where
  pub length_digits : (count n : ℕ) → length (digits base count n) ≡ count
  unfolding digits
  length_digits zero n = refl
  length_digits (suc count) n =
      length-append (digits base count (n / base)) (digit (n % base) ∷ []) ∙ omega (arith, length_digits count (n / base))

  -- the lowest digit put in, then those above it
  lowest_first : (out : List ℕ) (at count n : ℕ)
      → sets (set out (at + count) (digit (n % base))) at (digits base count (n / base)) ≡ sets out at (digits base (suc count) n)
  unfolding digits
  lowest_first out at count n =
      let above = digits base count (n / base) in
      ap (λ (k : ℕ). sets (set out (at + k) (digit (n % base))) at above) (sym (length_digits count (n / base)))
      ∙ last-first out at above (digit (n % base))

  -- a turn of the loop that puts digits in: what is still to be put in gives the whole
  pub digits-turn : (out : List ℕ) (at left n : ℕ) {out' whole : List ℕ} {d : ℕ} → 0 < left → d ≡ digit (n % base) → out' ≡ set out (at + (left - 1)) d
      → sets out at (digits base left n) ≡ whole → sets out' at (digits base (left - 1) (n / base)) ≡ whole
  digits-turn out at left n h e stored before =
      let one_more : suc (left - 1) ≡ left = omega arith in
      rw (stored, e) (lowest_first out at (left - 1) n ∙ ap (λ (k : ℕ). sets out at (digits base k n)) one_more ∙ before)

pub places-one : (turns n : ℕ) → n < 10 → digit_count turns n ≡ 1
unfolding digit_count
places-one zero n h = refl
places-one (suc turns) n h = rw (lt-ltb n 10 h)

places-more : (turns n : ℕ) → 10 ≤ n → digit_count (suc turns) n ≡ suc (digit_count turns (n / 10))
unfolding digit_count
places-more turns n h = rw (le-ltb n 10 h)

-- a turn of the loop that counts
pub places-turn : (n count rest : ℕ) → 10 ≤ rest → rest + count ≤ n + 1
    → count + 1 + digit_count (n + 1 - (count + 1)) (rest / 10) ≡ count + digit_count (n + 1 - count) rest
places-turn n count rest h within =
    let turns : n + 1 - count ≡ suc (n + 1 - (count + 1)) = omega arith in
    rw turns (omega (arith, places-more (n + 1 - (count + 1)) rest h))

-- a number below a power of ten has at most as many digits
pub places-le : (turns k n : ℕ) → n < 10 ^ suc k → digit_count turns n ≤ suc k
unfolding digit_count
places-le zero k n h = omega arith
places-le (suc turns) k n h = go (ltb n 10) refl k h (λ k m h. places-le turns k m h)
  where
    go : (t : Bool) → ltb n 10 ≡ t → (k : ℕ) → n < 10 ^ suc k → ((k m : ℕ) → m < 10 ^ suc k → digit_count turns m ≤ suc k)
        → cond t 1 (suc (digit_count turns (n / 10))) ≤ suc k
    go true e k h less = omega arith
    go false e zero h less = omega (arith, ltb-false n 10 e)
    go false e (suc k) h less =
        let h' : n < 10 ^ suc k * 10 = rw pow-suc at h in
        omega (arith, less k (n / 10) ((div-lt_iff_lt-mul (omega arith)).1 h'))

pub decimal-le : (k n : ℕ) → n < 10 ^ suc k → length (decimal n) ≤ suc k
decimal-le k n h = omega (arith, length_digits 10 (digit_count n n) n, places-le n k n h)

-- the decimal digits of a 64-bit number
pub decimal-short : {n : ℕ} → n < 2 ^ 64 → length (decimal n) ≤ 20
decimal-short {n} h = decimal-le 19 n (omega arith)
