-- CR 13: a sum of each kind and an odd negative number halved, as docs/CLAIMS.md has them in words. All compute.
use Rattle.std.proofs.Common.{◌≡◌, ℕ, Bool, true, false, List, [], ◌∷◌, ℤ, pos, neg_ℤ, refl}
use Rattle.arithmetic.specs.Words.{signed_of, leaves}
use Rattle.arithmetic.specs.Alu.{sum_of, difference_of, halved_of, answers, alu_at, alu_of}
use Rattle.arithmetic.specs.Meaning.{true_result}

-- the true result, the result as an integer, and the flag that tells whether it is off
record Reading : Type 0 where
  exact : ℤ
  result : ℤ
  flag : Bool

reading : ℤ → ℤ → Bool → Reading
reading exact result flag = record { exact = exact; result = result; flag = flag }

-- signed numbers and V, unsigned numbers and C
signed : (operation a b : ℕ) → Reading
signed operation a b =
    let out = alu_of operation a b false in
    reading (true_result operation (signed_of 31 a) (signed_of 31 b) false) (signed_of 31 out.result) out.overflow

unsigned : (operation a b : ℕ) → Reading
unsigned operation a b =
    let out = alu_of operation a b false in
    reading (true_result operation (pos a) (pos b) false) (pos out.result) out.carry

sums : List Reading
sums =
    signed 7 5 3  -- 3 - 5
    ∷ signed 7 0xFFFF_FFFF 0x7FFF_FFFF  -- 2147483647 - -1
    ∷ signed 7 1 0x8000_0000  -- -2147483648 - 1
    ∷ unsigned 3 2 0xFFFF_FFFF  -- 4294967295 + 2
    ∷ signed 3 2 0xFFFF_FFFF  -- the same words: -1 + 2
    ∷ []

expected : List Reading
expected =
    reading (neg_ℤ (pos 2)) (neg_ℤ (pos 2)) false
    ∷ reading (pos 2147483648) (neg_ℤ (pos 2147483648)) true
    ∷ reading (neg_ℤ (pos 2147483649)) (pos 2147483647) true
    ∷ reading (pos 4294967297) (pos 1) true
    ∷ reading (pos 1) (pos 1) false
    ∷ []

examples : sums ≡ expected
unfolding sums expected signed unsigned reading alu_of alu_at answers sum_of difference_of leaves signed_of
examples = refl

-- -3 halved
odd_negative : signed_of 31 0xFFFF_FFFD ≡ neg_ℤ (pos 3)
unfolding signed_of
odd_negative = refl

odd_negative_halved : (b : ℕ) (c : Bool) → signed_of 31 (alu_of 9 0xFFFF_FFFD b c).result ≡ neg_ℤ (pos 2)
unfolding alu_of alu_at answers halved_of signed_of
odd_negative_halved b c = refl
