-- The adder by halves is the ripple adder, by induction over the exponent of the width: two ripple adders side by side are one, and what a range
-- makes or passes on is the carry that ripples out of it.
use Prim.Native.Nat.{ℕ, zero, suc, ◌+◌, ◌^◌, ◌≤◌}
use mathlib.Core.Path.{◌≡◌, refl, sym, ap, ap₂, ◌∙◌}
use mathlib.Core.Bool.{Bool, true, false, ◌&&◌, ◌||◌}
use mathlib.Core.List.{List, [], ◌∷◌, ◌++◌}
use native.Mathlib.Nat.{suc_inj, pow-suc, le_of_eq}
use native.Mathlib.Omega.{arith}
use lib.ListN.{length, take, drop, get_or, length-drop}
use lib.Seq.{length-take-le, drop-cons, take-add, drop-drop, take_all}
use Rattle.gate_network.specs.declared.RangeCarry.{RangeCarry}
use Rattle.gate_network.specs.Gates.{full_sum, full_carry, ripple_sum, ripple_carry}
use Rattle.gate_network.specs.Halves.{joined_carry, range_carry, carry_past, halves_sum}
use Rattle.gate_network.specs.Theorems.{HalvesAsRipple, HalvesAdd}
use Rattle.gate_network.proofs.Worth.{ripple_adds, adds-alike}

-- ---- two ripple adders side by side

ripple_sum_join : (a b a' b' : List Bool) (c : Bool) → length b ≡ length a
    → ripple_sum (a ++ a') (b ++ b') c ≡ ripple_sum a b c ++ ripple_sum a' b' (ripple_carry a b c)
unfolding ripple_sum ripple_carry
ripple_sum_join [] [] a' b' c e = refl
ripple_sum_join [] (y ∷ b) a' b' c e = absurd (let h : suc (length b) ≡ 0 = e in omega arith)
ripple_sum_join (x ∷ a) [] a' b' c e = absurd (let h : 0 ≡ suc (length a) = e in omega arith)
ripple_sum_join (x ∷ a) (y ∷ b) a' b' c e = ap (λ (l : List Bool). full_sum x y c ∷ l) (ripple_sum_join a b a' b' (full_carry x y c) (suc_inj e))

ripple_carry_join : (a b a' b' : List Bool) (c : Bool) → length b ≡ length a → ripple_carry (a ++ a') (b ++ b') c ≡ ripple_carry a' b' (ripple_carry a b c)
unfolding ripple_carry
ripple_carry_join [] [] a' b' c e = refl
ripple_carry_join [] (y ∷ b) a' b' c e = absurd (let h : suc (length b) ≡ 0 = e in omega arith)
ripple_carry_join (x ∷ a) [] a' b' c e = absurd (let h : 0 ≡ suc (length a) = e in omega arith)
ripple_carry_join (x ∷ a) (y ∷ b) a' b' c e = ripple_carry_join a b a' b' (full_carry x y c) (suc_inj e)

-- past two ranges goes what goes past the upper of what goes past the lower
past-joined : (low high : RangeCarry) (c : Bool) → carry_past (joined_carry low high) c ≡ carry_past high (carry_past low c)
past-joined low high c = go low.makes low.passes high.makes high.passes
  where
    go : (m p n q : Bool) → ((n || (q && m)) || ((q && p) && c)) ≡ (n || (q && (m || (p && c))))
    go m p true q = refl
    go true p false true = refl
    go false p false true = refl
    go m p false false = refl

-- ---- ranges of a row

abbrev range : ℕ → List Bool → ℕ → List Bool
range n l at = take (2 ^ n) (drop at l)

range_length : (n : ℕ) (l : List Bool) (at : ℕ) → at + 2 ^ n ≤ length l → length (range n l at) ≡ 2 ^ n
range_length n l at h = length-take-le (2 ^ n) (drop at l) (omega (arith, length-drop at l))

range-one : (l : List Bool) (at : ℕ) → at + 1 ≤ length l → range 0 l at ≡ get_or l at false ∷ []
range-one l at h = ap (take 1) (drop-cons l at false (omega arith))

range_split : (n : ℕ) (l : List Bool) (at : ℕ) → range (suc n) l at ≡ range n l at ++ range n l (at + 2 ^ n)
range_split n l at =
    ap (λ (m : ℕ). take m (drop at l)) (let e : 2 ^ suc n ≡ 2 ^ n + 2 ^ n = omega (arith, pow-suc 2 n) in e)
    ∙ take-add (2 ^ n) (2 ^ n) (drop at l)
    ∙ ap (λ (m : List Bool). range n l at ++ take (2 ^ n) m) (drop-drop (2 ^ n) at l)

-- ---- the adder by halves over a range

module _ (p q : List Bool) (same : length q ≡ length p) where
  -- both halves of a range lie in the rows
  lower : (n at : ℕ) → at + 2 ^ suc n ≤ length p → at + 2 ^ n ≤ length p
  lower n at h = omega (arith, pow-suc 2 n)

  upper : (n at : ℕ) → at + 2 ^ suc n ≤ length p → at + 2 ^ n + 2 ^ n ≤ length p
  upper n at h = omega (arith, pow-suc 2 n)

  in_both : {m : ℕ} → m ≤ length p → m ≤ length q
  in_both {m} h = omega arith

  alike : (n at : ℕ) → at + 2 ^ n ≤ length p → length (range n q at) ≡ length (range n p at)
  alike n at h = range_length n q at (in_both h) ∙ sym (range_length n p at h)

  range-carry : (n at : ℕ) (c : Bool) → at + 2 ^ n ≤ length p → carry_past (range_carry n at p q) c ≡ ripple_carry (range n p at) (range n q at) c
  unfolding range_carry ripple_carry
  range-carry zero at c h = sym (ap₂ (λ (a b : List Bool). ripple_carry a b c) (range-one p at h) (range-one q at (in_both h)))
  range-carry (suc n) at c h =
      past-joined (range_carry n at p q) (range_carry n (at + 2 ^ n) p q) c
      ∙ ap (carry_past (range_carry n (at + 2 ^ n) p q)) (range-carry n at c (lower n at h))
      ∙ range-carry n (at + 2 ^ n) (ripple_carry (range n p at) (range n q at) c) (upper n at h)
      ∙ sym (ripple_carry_join (range n p at) (range n q at) (range n p (at + 2 ^ n)) (range n q (at + 2 ^ n)) c (alike n at (lower n at h)))
      ∙ sym (ap₂ (λ (a b : List Bool). ripple_carry a b c) (range_split n p at) (range_split n q at))

  range-sum : (n at : ℕ) (c : Bool) → at + 2 ^ n ≤ length p → halves_sum n at p q c ≡ ripple_sum (range n p at) (range n q at) c
  unfolding halves_sum ripple_sum
  range-sum zero at c h = sym (ap₂ (λ (a b : List Bool). ripple_sum a b c) (range-one p at h) (range-one q at (in_both h)))
  range-sum (suc n) at c h =
      ap₂ ◌++◌ (range-sum n at c (lower n at h))
      (range-sum n (at + 2 ^ n) (carry_past (range_carry n at p q) c) (upper n at h)
      ∙ ap (ripple_sum (range n p (at + 2 ^ n)) (range n q (at + 2 ^ n))) (range-carry n at c (lower n at h)))
      ∙ sym (ripple_sum_join (range n p at) (range n q at) (range n p (at + 2 ^ n)) (range n q (at + 2 ^ n)) c (alike n at (lower n at h)))
      ∙ sym (ap₂ (λ (a b : List Bool). ripple_sum a b c) (range_split n p at) (range_split n q at))

-- the whole rows
range_all : (n : ℕ) (l : List Bool) → length l ≡ 2 ^ n → range n l 0 ≡ l
range_all n l e = take_all (2 ^ n) l (le_of_eq e)

pub halves_as_ripple : HalvesAsRipple
halves_as_ripple n p q f lp lq =
    let same : length q ≡ length p = lq ∙ sym lp in
    let fits : 0 + 2 ^ n ≤ length p = omega arith in
    record {
      sum = range-sum p q same n 0 f fits ∙ ap₂ (λ (a b : List Bool). ripple_sum a b f) (range_all n p lp) (range_all n q lq);
      carry = range-carry p q same n 0 f fits ∙ ap₂ (λ (a b : List Bool). ripple_carry a b f) (range_all n p lp) (range_all n q lq);
    }

pub halves_add : HalvesAdd
halves_add n p q f lp lq =
    let h = halves_as_ripple n p q f lp lq in
    adds-alike (ripple_adds (2 ^ n) p q f lp lq) h.carry h.sum
