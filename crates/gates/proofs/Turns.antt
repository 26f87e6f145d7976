-- Loops that fill a row of bits from the front, one store a turn. The invariant is `take i out ++ rest ≡ whole`, where rest is what is
-- still to come.
use Prim.Native.Nat.{ℕ, suc, ◌+◌, ◌≤◌, ◌<◌}
use mathlib.Core.Path.{◌≡◌, refl, sym, ap, ◌∙◌}
use mathlib.Core.Bool.{Bool, false}
use mathlib.Core.List.{List, [], ◌∷◌, ◌++◌, append_assoc, append-nil}
use native.Mathlib.Nat.{add-zero}
use native.Mathlib.Numerals.{add-one}
use lib.ListN.{length, take, drop, get_or, set, drop_of_length-le}
use lib.Seq.{take-suc-set, drop-cons, take_all, get_or-drop}
use Rattle.gate_network.specs.declared.Lines.{Lines}
use Rattle.gate_network.specs.Gates.{full_sum, full_carry, ripple_sum, ripple_carry, first_bit, second_bit, first_row, second_row}

-- a turn: the row still to come is the bit that is stored and then the rest
pub turn : (l rest more whole : List Bool) (i : ℕ) (x y : Bool) → i < length l → x ≡ y → rest ≡ y ∷ more → take i l ++ rest ≡ whole
    → take (i + 1) (set l i x) ++ more ≡ whole
turn l rest more whole i x y h e p q =
    ap (λ (n : ℕ). take n (set l i x) ++ more) (add-one i)
    ∙ ap (λ (m : List Bool). m ++ more) (take-suc-set l i x h)
    ∙ append_assoc (take i l) (x ∷ []) more
    ∙ ap (λ (z : Bool). take i l ++ z ∷ more) e
    ∙ ap (λ (m : List Bool). take i l ++ m) (sym p)
    ∙ q

-- after the last store
pub all-stored : (l rest whole : List Bool) (i : ℕ) → length l ≤ i → [] ≡ rest → take i l ++ rest ≡ whole → l ≡ whole
all-stored l rest whole i h p e = sym (take_all i l h) ∙ sym (append-nil (take i l)) ∙ ap (λ (m : List Bool). take i l ++ m) p ∙ e

-- ---- the ripple adder

module _ (a b : List Bool) (c : Bool) (i : ℕ) (ha : i < length a) (hb : i < length b) where
  pub ripple_sum_step : ripple_sum (drop i a) (drop i b) c
      ≡ full_sum (get_or a i false) (get_or b i false) c ∷ ripple_sum (drop (i + 1) a) (drop (i + 1) b) (full_carry (get_or a i false) (get_or b i false) c)
  unfolding ripple_sum
  ripple_sum_step = rw (add-one, drop-cons a i false, drop-cons b i false) refl

  pub ripple_carry_step : ripple_carry (drop i a) (drop i b) c
      ≡ ripple_carry (drop (i + 1) a) (drop (i + 1) b) (full_carry (get_or a i false) (get_or b i false) c)
  unfolding ripple_carry
  ripple_carry_step = rw (add-one, drop-cons a i false, drop-cons b i false) refl

module _ (a b : List Bool) (c : Bool) (i : ℕ) (e : length a ≤ i) where
  pub ripple_sum_end : [] ≡ ripple_sum (drop i a) (drop i b) c
  unfolding ripple_sum
  ripple_sum_end = ap (λ (m : List Bool). ripple_sum m (drop i b) c) (sym (drop_of_length-le a e))

  pub ripple_carry_end : c ≡ ripple_carry (drop i a) (drop i b) c
  unfolding ripple_carry
  ripple_carry_end = ap (λ (m : List Bool). ripple_carry m (drop i b) c) (sym (drop_of_length-le a e))

-- ---- the adder's rows

module _ (l : Lines) (a b : List Bool) (i : ℕ) (ha : i < length a) (hb : i < length b) where
  pub first_step : first_row l (drop i a) (drop i b)
      ≡ first_bit l (get_or a i false) (get_or b i false) (get_or a (i + 1) l.top) ∷ first_row l (drop (i + 1) a) (drop (i + 1) b)
  unfolding first_row
  first_step = rw (add-one, drop-cons a i false, drop-cons b i false, get_or-drop (suc i) a 0 l.top, add-zero) refl

  pub second-step : second_row l (drop i a) ≡ second_bit l (get_or a i false) ∷ second_row l (drop (i + 1) a)
  unfolding second_row
  second-step = rw (add-one, drop-cons a i false) refl

module _ (l : Lines) (a b : List Bool) (i : ℕ) (e : length a ≤ i) where
  pub first-end : [] ≡ first_row l (drop i a) (drop i b)
  unfolding first_row
  first-end = ap (λ (m : List Bool). first_row l m (drop i b)) (sym (drop_of_length-le a e))

  pub second-end : [] ≡ second_row l (drop i a)
  unfolding second_row
  second-end = ap (λ (m : List Bool). second_row l m) (sym (drop_of_length-le a e))
