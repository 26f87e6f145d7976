-- CR 13, what the sums mean: the unit's results as integers beside the true results, at every width of k + 1 bits, V and C as the unit computes
-- them.
use Rattle.std.specs.Prelude.{◌≡◌, ℕ, suc, ◌^◌, ◌<◌, ◌≤◌, Bool, true, false, ◌⊎◌, List, [], ◌∷◌, ℤ, pos, ◌+ℤ◌, ◌-ℤ◌, ◌≤ℤ◌, ◌<ℤ◌, slice_index_or}
use Rattle.arithmetic.specs.declared.AluOut.{AluOut}
use Rattle.arithmetic.specs.Words.{as_number, signed_of}
use Rattle.arithmetic.specs.Alu.{alu_at}

-- ---- integers

-- the true results of operations 0 to 7, in their order
abbrev pub true_results : (a b c : ℤ) → List ℤ
true_results a b c =
    a  -- 0: a
    ∷ (a +ℤ pos 1)  -- 1: a + 1
    ∷ (b +ℤ a +ℤ c)  -- 2: b + a + c
    ∷ (b +ℤ a)  -- 3: b + a
    ∷ (pos 0 -ℤ a)  -- 4: 0 - a
    ∷ (a -ℤ pos 1)  -- 5: a - 1
    ∷ (b -ℤ a -ℤ c)  -- 6: b - a - c
    ∷ (b -ℤ a)  -- 7: b - a
    ∷ []

abbrev pub true_result : (operation : ℕ) → (a b : ℤ) → (c : Bool) → ℤ
true_result operation a b c = slice_index_or (true_results a b (pos (as_number c))) operation a

-- z is positive, and r is off by exactly m, down
abbrev pub Down : (m : ℕ) → (z r : ℤ) → Type 0
Down m z r = (pos 0 <ℤ z) × (r ≡ z -ℤ pos m)

-- z is negative, and r is off by exactly m, up
abbrev pub Up : (m : ℕ) → (z r : ℤ) → Type 0
Up m z r = (z <ℤ pos 0) × (r ≡ z +ℤ pos m)

-- r is the floor of half z: the largest integer whose double is not above z
pub record FloorOfHalf (z r : ℤ) : Type 0 where
  pub double : (r +ℤ r) ≤ℤ z
  pub next : z <ℤ (r +ℤ pos 1 +ℤ (r +ℤ pos 1))

-- ---- what the unit's answer means, z being the true result

-- signed numbers: "wherever V is 0 the signed result is the true integer result; wherever V is 1 it is off by exactly 2^w, down if the true
-- result is positive, up if negative"
pub record SignedMeans (k : ℕ) (z : ℤ) (out : AluOut) : Type 0 where
  pub exact : out.overflow ≡ false → signed_of k out.result ≡ z
  pub off : out.overflow ≡ true → Down (2 ^ suc k) z (signed_of k out.result) ⊎ Up (2 ^ suc k) z (signed_of k out.result)

-- unsigned numbers: the same with C; their sums are never negative, so never off up
pub record UnsignedMeans (k : ℕ) (z : ℤ) (out : AluOut) : Type 0 where
  pub exact : out.carry ≡ false → pos out.result ≡ z
  pub off : out.carry ≡ true → Down (2 ^ suc k) z (pos out.result)

-- ---- by operation, on the words a and b of k + 1 bits and the old C

-- 1 to 7
abbrev pub SignedSums : (k operation a b : ℕ) → (c : Bool) → AluOut → Type 0
SignedSums k operation a b c out = 1 ≤ operation → operation ≤ 7 → SignedMeans k (true_result operation (signed_of k a) (signed_of k b) c) out

-- 1 to 3
abbrev pub UnsignedSums : (k operation a b : ℕ) → (c : Bool) → AluOut → Type 0
UnsignedSums k operation a b c out = 1 ≤ operation → operation ≤ 3 → UnsignedMeans k (true_result operation (pos a) (pos b) c) out

-- 9: "halving rounded down, for negative numbers too"
abbrev pub RoundsDown : (k operation a : ℕ) → AluOut → Type 0
RoundsDown k operation a out = operation ≡ 9 → FloorOfHalf (signed_of k a) (signed_of k out.result)

pub record SumsMean (k operation a b : ℕ) (c : Bool) (out : AluOut) : Type 0 where
  pub signed : SignedSums k operation a b c out
  pub unsigned : UnsignedSums k operation a b c out
  pub halved : RoundsDown k operation a out

-- "for every width from 1 bit up", any two words of it and either old C
abbrev pub SumsMeaning : Type 0
SumsMeaning = (k operation a b : ℕ) (c : Bool) → a < 2 ^ suc k → b < 2 ^ suc k → SumsMean k operation a b c (alu_at k operation a b c)
