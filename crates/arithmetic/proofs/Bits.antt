-- Bits, alone and as numbers.
use Rattle.std.proofs.Common.{◌≡◌, ℕ, zero, suc, ◌+◌, ◌*◌, ◌/◌, ◌%◌, ◌≤◌, Bool, true, false, not, eqb, refl, arith}
use mathlib.Core.Bool.{xor}
use lib.Pow.{mod-pow-add}
use Rattle.arithmetic.specs.Words.{as_number, nibble}

-- what is shown of both bits, of two, of three
pub one : (P : Bool → Type 0) → P true → P false → (x : Bool) → P x
one P p q true = p
one P p q false = q

pub two : (P : Bool → Bool → Type 0) → P true true → P true false → P false true → P false false → (x y : Bool) → P x y
two P p q r s true = one (P true) p q
two P p q r s false = one (P false) r s

pub three : (P : Bool → Bool → Bool → Type 0) → P true true true → P true true false → P true false true → P true false false
    → P false true true → P false true false → P false false true → P false false false → (x y z : Bool) → P x y z
three P p q r s t u v w true = two (P true) p q r s
three P p q r s t u v w false = two (P false) t u v w

pub xor_false : (t : Bool) → xor t false ≡ t
unfolding xor
xor_false = one _ refl refl

pub xor_true : (t : Bool) → xor t true ≡ not t
unfolding xor
xor_true = one _ refl refl

-- ---- as numbers

pub bit_le : (c : Bool) → as_number c ≤ 1
bit_le true = omega arith
bit_le false = omega arith

-- a bit as a number, and back
pub digit-bit : (b : Bool) {x : ℕ} → x ≡ as_number b → eqb x 1 ≡ b
digit-bit true e = rw e
digit-bit false e = rw e

pub bit-digit : (x : ℕ) → x ≤ 1 → as_number (eqb x 1) ≡ x
bit-digit zero h = refl
bit-digit (suc zero) h = refl
bit-digit (suc (suc x)) h = absurd (omega arith)

-- the lowest bit of a number, and the others
pub low_bit : (b : Bool) (n : ℕ) → (as_number b + 2 * n) % 2 ≡ as_number b
low_bit b n = omega (arith, bit_le b)

pub high_bits : (b : Bool) (n : ℕ) → (as_number b + 2 * n) / 2 ≡ n
high_bits b n = omega (arith, bit_le b)

-- the lowest four bits of a number
pub low-nibble : (n : ℕ) → nibble (eqb (n / 8 % 2) 1) (eqb (n / 4 % 2) 1) (eqb (n / 2 % 2) 1) (eqb (n % 2) 1) ≡ n % 16
low-nibble n =
    rw (bit-digit (n / 8 % 2) (omega arith), bit-digit (n / 4 % 2) (omega arith), bit-digit (n / 2 % 2) (omega arith), bit-digit (n % 2) (omega arith))
    (omega (arith, mod-pow-add n 1 3, mod-pow-add n 1 2, mod-pow-add n 1 1))
