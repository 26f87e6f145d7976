-- What rows of bits are worth, at every width: each law by one induction over the row.
use Prim.Native.Nat.{ℕ, zero, suc, ◌+◌, ◌*◌, ◌/◌, ◌%◌, ◌^◌, ◌<◌}
use mathlib.Core.Path.{◌≡◌, refl, sym, ap, subst, ◌∙◌}
use mathlib.Core.Bool.{Bool, true, false, not, xor}
use mathlib.Core.List.{List, [], ◌∷◌, ◌++◌}
use native.Mathlib.Nat.{suc_inj, pow-suc, pow-succ', mul_comm, mul_assoc, le_of_suc-le-suc, div-one, div-div-eq-div-mul}
use native.Mathlib.Omega.{arith}
use lib.Dec.{eqb}
use lib.ListN.{length, get_or}
use borrow.Author.Tests.{ne_eqb}
use Rattle.arithmetic.specs.Words.{as_number, top_of}
use Rattle.arithmetic.proofs.Bits.{three, bit_le, digit-bit, bit-digit, low_bit}
use Rattle.arithmetic.proofs.Integers.{same-leb}
use Rattle.gate_network.specs.Gates.{value, bits_of, full_sum, full_carry, ripple_sum, ripple_carry, any_of}
use Rattle.gate_network.specs.Theorems.{Adds, RippleAdds}

-- one more place doubles what a bit is worth
double : (b n : ℕ) → b * 2 ^ suc n ≡ 2 * (b * 2 ^ n)
double b n = ap (λ (x : ℕ). b * x) (pow-suc 2 n) ∙ sym (mul_assoc b (2 ^ n) 2) ∙ mul_comm (b * 2 ^ n) 2

-- ---- the ripple adder, for all widths together

full-value : (a b c : Bool) → as_number (full_sum a b c) + 2 * as_number (full_carry a b c) ≡ as_number a + as_number b + as_number c
unfolding xor
full-value = three _ refl refl refl refl refl refl refl refl

rows-add : (p q : List Bool) (f : Bool) → length q ≡ length p → Adds p q f (ripple_sum p q f) (ripple_carry p q f)
unfolding value ripple_sum ripple_carry
rows-add [] [] c e = record { long = refl; worth = omega arith }
rows-add [] (y ∷ b) c e = absurd (let h : suc (length b) ≡ 0 = e in omega arith)
rows-add (x ∷ a) [] c e = absurd (let h : 0 ≡ suc (length a) = e in omega arith)
rows-add (x ∷ a) (y ∷ b) c e =
    let h = rows-add a b (full_carry x y c) (suc_inj e) in
    let f = full-value x y c in
    let d = double (as_number (ripple_carry a b (full_carry x y c))) (length a) in
    record { long = ap suc h.long; worth = omega (arith, h.worth) }

pub ripple_adds : RippleAdds
ripple_adds w p q f lp lq = rows-add p q f (lq ∙ sym lp)

-- what equals a sum and its carry out is one too
pub adds-alike : {p q : List Bool} {f d d' : Bool} {s s' : List Bool} → Adds p q f s d → d' ≡ d → s' ≡ s → Adds p q f s' d'
adds-alike h ed es = rw (ed, es) h

-- ---- bounds, the top bit, the lowest bit

value-lt : (l : List Bool) → value l < 2 ^ length l
unfolding value
value-lt [] = omega arith
value-lt (b ∷ l) = omega (arith, value-lt l, bit_le b, pow-suc 2 (length l))

pub value-below : (l : List Bool) (n : ℕ) → length l ≡ n → value l < 2 ^ n
value-below l n e = subst (λ (m : ℕ). value l < 2 ^ m) e (value-lt l)

pub value-top : (k : ℕ) (l : List Bool) → length l ≡ suc k → get_or l k false ≡ top_of k (value l)
unfolding value
value-top k [] e = absurd (let h : 0 ≡ suc k = e in omega arith)
value-top zero (true ∷ []) e = refl
value-top zero (false ∷ []) e = refl
value-top zero (b ∷ x ∷ l) e = absurd (let h : suc (suc (length l)) ≡ 1 = e in omega arith)
value-top (suc k) (b ∷ l) e =
    value-top k l (suc_inj e)
    ∙ same-leb (2 ^ k) (value l) (2 ^ suc k) (as_number b + 2 * value l) (λ h. omega (arith, bit_le b, pow-suc 2 k)) (λ h. omega (arith, bit_le b, pow-suc 2 k))

pub value_low : (l : List Bool) → eqb (value l % 2) 1 ≡ get_or l 0 false
unfolding value
value_low [] = refl
value_low (b ∷ l) = digit-bit b (low_bit b (value l))

-- a row is worth nothing where no bit of it is 1
pub value_none : (l : List Bool) → not (any_of l) ≡ eqb (value l) 0
unfolding value any_of
value_none [] = refl
value_none (true ∷ l) = sym (ne_eqb (1 + 2 * value l) 0 (λ e. omega arith))
value_none (false ∷ l) = value_none l ∙ doubled (value l)
  where
    doubled : (n : ℕ) → eqb n 0 ≡ eqb (0 + 2 * n) 0
    doubled zero = refl
    doubled (suc n) = ne_eqb (suc n) 0 (λ e. omega arith) ∙ sym (ne_eqb (0 + 2 * suc n) 0 (λ e. omega arith))

-- ---- words to bits and back

pub length-bits : (n x : ℕ) → length (bits_of n x) ≡ n
unfolding bits_of
length-bits zero x = refl
length-bits (suc n) x = ap suc (length-bits n (x / 2))

pub bit_at : (n x i : ℕ) (d : Bool) → i < n → get_or (bits_of n x) i d ≡ eqb (x / 2 ^ i % 2) 1
unfolding bits_of
bit_at zero x i d h = absurd (omega arith)
bit_at (suc n) x zero d h = ap (λ (y : ℕ). eqb (y % 2) 1) (sym (div-one x))
bit_at (suc n) x (suc i) d h =
    bit_at n (x / 2) i d (le_of_suc-le-suc h)
    ∙ ap (λ (y : ℕ). eqb (y % 2) 1) (div-div-eq-div-mul x 2 (2 ^ i) ∙ ap (λ (m : ℕ). x / m) (sym (pow-succ' 2 i)))

pub value-bits : (n x : ℕ) → x < 2 ^ n → value (bits_of n x) ≡ x
unfolding value bits_of
value-bits zero x h = omega arith
value-bits (suc n) x h = let l : x / 2 < 2 ^ n = omega (arith, pow-suc 2 n) in omega (arith, bit-digit (x % 2) (omega arith), value-bits n (x / 2) l)

-- one more bit above
pub value-snoc : (l : List Bool) (t : Bool) → value (l ++ (t ∷ [])) ≡ value l + as_number t * 2 ^ length l
unfolding value
value-snoc [] t = omega arith
value-snoc (b ∷ l) t = omega (arith, value-snoc l t, double (as_number t) (length l))
