-- What the arithmetic unit answers, by operation, at every width of k + 1 bits: a result with its four flags; the machine's is `alu_of`, at
-- 32 bits. Document 01, "Machine and instruction word", move bit 0.
use Rattle.std.specs.Prelude.{ℕ, suc, ◌+◌, ◌-◌, ◌*◌, ◌/◌, ◌%◌, ◌^◌, Bool, true, false, List, [], ◌∷◌, pos, ◌+ℤ◌, ◌-ℤ◌, ◌==◌, bit_and, bit_or, bit_xor, nat_le, nat_lt, slice_index_or}
use Rattle.arithmetic.specs.declared.AluOut.{AluOut}
use Rattle.arithmetic.specs.Words.{as_number, top_of, signed_of, leaves}

-- N is the result's top bit; Z says that it is zero
abbrev pub answer : (k result : ℕ) → (carry overflow : Bool) → AluOut
answer k result carry overflow =
    record {
      result = result;
      carry = carry;
      overflow = overflow;
      negative = top_of k result;
      zero = (result == 0);
    }

-- a result that sets neither carry nor overflow
abbrev pub plain_of : ℕ → ℕ → AluOut
plain_of k x = answer k x false false

-- x + y + c. Carry: the sum reaches 2 ^ (k + 1). Overflow: the sum of the signed readings leaves the range
unfoldable pub sum_of : ℕ → ℕ → ℕ → Bool → AluOut
sum_of k x y c =
    answer k
    ((x + y + as_number c) % 2 ^ suc k)
    (nat_le (2 ^ suc k) (x + y + as_number c))
    (leaves k (signed_of k x +ℤ signed_of k y +ℤ pos (as_number c)))

-- x - y - c. Carry: the difference is below zero. Overflow: the difference of the signed readings leaves the range
unfoldable pub difference_of : ℕ → ℕ → ℕ → Bool → AluOut
difference_of k x y c =
    answer k
    ((x + 2 ^ suc k - (y + as_number c)) % 2 ^ suc k)
    (nat_lt x (y + as_number c))
    (leaves k (signed_of k x -ℤ signed_of k y -ℤ pos (as_number c)))

-- a halved, with the top bit given. Carry: the bit shifted out
unfoldable pub halved_of : ℕ → Bool → ℕ → AluOut
halved_of k top a = answer k (a / 2 + as_number top * 2 ^ k) (a % 2 == 1) false

-- operations 0 to 14, in their order
unfoldable pub answers : ℕ → ℕ → ℕ → Bool → List AluOut
answers k a b c =
    plain_of k a  -- 0: a
    ∷ sum_of k a 0 true  -- 1: a + 1
    ∷ sum_of k b a c  -- 2: b + a + c
    ∷ sum_of k b a false  -- 3: b + a
    ∷ difference_of k 0 a false  -- 4: 0 - a
    ∷ difference_of k a 0 true  -- 5: a - 1
    ∷ difference_of k b a c  -- 6: b - a - c
    ∷ difference_of k b a false  -- 7: b - a
    ∷ halved_of k c a  -- 8: a halved, top bit c
    ∷ halved_of k (top_of k a) a  -- 9: a halved, top bit kept
    ∷ halved_of k false a  -- 10: a halved, top bit 0
    ∷ plain_of k (bit_xor a b)  -- 11: exclusive or
    ∷ plain_of k (bit_or a b)  -- 12: or
    ∷ plain_of k (bit_and a b)  -- 13: and
    ∷ plain_of k (2 ^ suc k - 1 - a)  -- 14: complement of a
    ∷ []

-- 15 moves a as 0 does
unfoldable pub alu_at : ℕ → ℕ → ℕ → ℕ → Bool → AluOut
alu_at k operation a b c = slice_index_or (answers k a b c) operation (plain_of k a)

-- the card's unit: 32 bits, and four lines for the operation, so that only the low four bits of its number count
unfoldable pub alu_of : ℕ → ℕ → ℕ → Bool → AluOut
alu_of operation a b c = alu_at 31 (operation % 16) a b c
