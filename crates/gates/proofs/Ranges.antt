-- The adder by halves on ranges: what a call gives for a range of one place, and for a range from its two halves.
use Prim.Native.Nat.{ℕ, zero, suc, ◌+◌, ◌/◌, ◌^◌}
use mathlib.Core.Path.{◌≡◌, refl, sym, ap, ◌∙◌}
use mathlib.Core.Bool.{Bool, false}
use mathlib.Core.List.{List}
use native.Mathlib.Nat.{pow-suc}
use native.Mathlib.Omega.{arith}
use lib.ListN.{length, get_or, set, length-append}
use lib.Pow.{pow_pos}
use lib.Seq.{sets}
use Rattle.model.proofs.Stores.{sets-append, all_set}
use Rattle.gate_network.specs.declared.RangeCarry.{RangeCarry}
use Rattle.gate_network.specs.Gates.{full_sum}
use Rattle.gate_network.specs.Halves.{place_carry, joined_carry, range_carry, carry_past, halves_sum, halves_carry}
use Rattle.gates.specs.Halving.{RangeCarries, RangeSums}

halves_length : (n at : ℕ) (p q : List Bool) (f : Bool) → length (halves_sum n at p q f) ≡ 2 ^ n
unfolding halves_sum
halves_length zero at p q f = refl
halves_length (suc n) at p q f =
    let g = halves_carry n at p q f in
    length-append (halves_sum n at p q f) (halves_sum n (at + 2 ^ n) p q g)
    ∙ omega (arith, pow-suc 2 n, halves_length n at p q f, halves_length n (at + 2 ^ n) p q g)

module _ (p q : List Bool) (at width : ℕ) where
  -- ---- one place

  -- whose width is no higher power of two
  no_power : {A : Type 0} (n : ℕ) → width ≡ 1 → width ≡ 2 ^ suc n → A
  no_power n e g = absurd (omega (arith, pow-suc 2 n, pow_pos n))

  pub carry-one : width ≡ 1 → RangeCarries p q at width (place_carry (get_or p at false) (get_or q at false))
  unfolding range_carry
  carry-one e zero g = refl
  carry-one e (suc n) g = no_power n e g

  pub sum_one : (f : Bool) (out : List Bool) → width ≡ 1 → RangeSums p q at width f out (set out at (full_sum (get_or p at false) (get_or q at false) f))
  unfolding halves_sum
  sum_one f out e zero g = refl
  sum_one f out e (suc n) g = no_power n e g

  -- ---- two halves

  halved : (n : ℕ) → width ≡ 2 ^ suc n → width / 2 ≡ 2 ^ n
  halved n g = omega (arith, pow-suc 2 n)

  pub carry-joined : {low high : RangeCarry} → (width ≡ 1 → ⊥) → RangeCarries p q at (width / 2) low → RangeCarries p q (at + width / 2) (width / 2) high
      → RangeCarries p q at width (joined_carry low high)
  unfolding range_carry
  carry-joined d l h zero g = absurd (d g)
  carry-joined d l h (suc n) g =
      let half = halved n g in
      (λ i. joined_carry (l n half i) (h n half i)) ∙ ap (λ (m : ℕ). joined_carry (range_carry n at p q) (range_carry n (at + m) p q)) half

  pub sum-joined : (f : Bool) (out : List Bool) {between : Bool} {low : RangeCarry} {mid exit : List Bool} → (width ≡ 1 → ⊥)
      → RangeSums p q at (width / 2) f out mid → RangeCarries p q at (width / 2) low → between ≡ carry_past low f
      → RangeSums p q (at + width / 2) (width / 2) between mid exit → RangeSums p q at width f out exit
  unfolding halves_sum
  sum-joined f out d s l e h zero g = absurd (d g)
  sum-joined f out d s l e h (suc n) g =
      let half = halved n g in
      let lower = halves_sum n at p q f in
      let upper = halves_sum n (at + 2 ^ n) p q (halves_carry n at p q f) in
      h n half
      ∙ (λ i. sets (s n half i) (at + half i) (halves_sum n (at + half i) p q ((e ∙ ap (λ (t : RangeCarry). carry_past t f) (l n half)) i)))
      ∙ ap (λ (m : ℕ). sets (sets out at lower) (at + m) upper) (sym (halves_length n at p q f)) ∙ sets-append out at lower upper

-- ---- the whole rows, of 32 bits

pub halves_whole : (p q : List Bool) (f : Bool) (out : List Bool) {s : List Bool} → length out ≡ 32 → RangeSums p q 0 32 f out s → s ≡ halves_sum 5 0 p q f
halves_whole p q f out e h = h 5 refl ∙ all_set out (halves_sum 5 0 p q f) (e ∙ sym (halves_length 5 0 p q f))
