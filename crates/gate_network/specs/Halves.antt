-- The adder of the new card. Document 02, CR 8: "Its adder joins two half-width adders, each made the same way down to one bit, and works out
-- the carry between them from whether a half makes or passes one on." It adds a range of two rows p and q: the 2 ^ n places from the place
-- `at` on. At each call n is one less, so that the width halves. (In a carry-lookahead adder's terms a range generates or propagates a carry.)
use Rattle.std.specs.Prelude.{ℕ, zero, suc, ◌+◌, ◌^◌, Bool, false, ◌&&◌, ◌||◌, List, [], ◌∷◌, ◌++◌, get_or}
use Rattle.std.specs.Bool.{xor}
use Rattle.gate_network.specs.declared.RangeCarry.{RangeCarry}
use Rattle.gate_network.specs.Gates.{full_sum}

-- ---- "whether a half makes or passes one on"

-- one place: both bits make a carry, one alone passes on the carry that comes in
abbrev pub place_carry : Bool → Bool → RangeCarry
place_carry a b = record { makes = a && b; passes = xor a b }

-- two ranges side by side: a carry is made where the upper makes one, or passes on the one that the lower makes; one that comes in is passed on
-- where both pass it on
abbrev pub joined_carry : (low high : RangeCarry) → RangeCarry
joined_carry low high = record { makes = high.makes || (high.passes && low.makes); passes = high.passes && low.passes }

-- whether a range makes a carry, and whether it passes one on
unfoldable pub range_carry : (n at : ℕ) → (p q : List Bool) → RangeCarry
range_carry zero at p q = place_carry (get_or p at false) (get_or q at false)
range_carry (suc n) at p q = joined_carry (range_carry n at p q) (range_carry n (at + 2 ^ n) p q)

-- the carry out of a range, by the carry in
abbrev pub carry_past : RangeCarry → Bool → Bool
carry_past r c = r.makes || (r.passes && c)

abbrev pub halves_carry : (n at : ℕ) → (p q : List Bool) → Bool → Bool
halves_carry n at p q c = carry_past (range_carry n at p q) c

-- ---- "joins two half-width adders, each made the same way down to one bit"

-- the sum of a range and a carry: the lower half's, then the upper half's with the carry between them, which is the lower half's carry out
unfoldable pub halves_sum : (n at : ℕ) → (p q : List Bool) → Bool → List Bool
halves_sum zero at p q c = full_sum (get_or p at false) (get_or q at false) c ∷ []
halves_sum (suc n) at p q c = halves_sum n at p q c ++ halves_sum n (at + 2 ^ n) p q (halves_carry n at p q c)
