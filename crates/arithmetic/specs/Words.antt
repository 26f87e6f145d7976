-- Words of any width from 1 bit up, as numbers, and their signed reading. Document 01, "Machine and instruction word", C, V and N. A width is
-- written k + 1, so that its half power is `2 ^ k`.
use Rattle.std.specs.Prelude.{ℕ, suc, ◌+◌, ◌*◌, ◌^◌, Bool, true, false, cond, ◌&&◌, ◌||◌, ℤ, pos, ◌-ℤ◌, neg_ℤ, int_le, int_lt, nat_le, nat_lt}
use Rattle.std.specs.Bool.{xor}

-- a bit as a number
abbrev pub as_number : Bool → ℕ
as_number true = 1
as_number false = 0

-- four bits as a number, the highest first
abbrev pub nibble : Bool → Bool → Bool → Bool → ℕ
nibble b3 b2 b1 b0 = 8 * as_number b3 + 4 * as_number b2 + 2 * as_number b1 + as_number b0

-- the top bit of a word of k + 1 bits
abbrev pub top_of : ℕ → ℕ → Bool
top_of k x = nat_le (2 ^ k) x

-- overflow, from the top bits of two words and of their sum: both have the sign that the sum has not
abbrev pub overflow_of : Bool → Bool → Bool → Bool
overflow_of p q s = xor p s && xor q s

-- the signed reading of a word of k + 1 bits: from 2 ^ k on it is 2 ^ (k + 1) less
unfoldable pub signed_of : ℕ → ℕ → ℤ
signed_of k x = cond (nat_lt x (2 ^ k)) (pos x) (pos x -ℤ pos (2 ^ suc k))

-- an integer leaves the range -2 ^ k to 2 ^ k - 1 that k + 1 bits can hold
unfoldable pub leaves : ℕ → ℤ → Bool
leaves k z = int_lt z (neg_ℤ (pos (2 ^ k))) || int_le (pos (2 ^ k)) z
