-- What the functions of the adder by halves give (CR 8) where the width that they are told is a power of two: the definitions of gate_network at
-- its exponent.
use Rattle.std.specs.Prelude.{ℕ, ◌^◌, ◌≡◌, Bool, List}
use Rattle.std.proofs.lemmas.List.Edits.{sets}
use Rattle.gate_network.specs.declared.RangeCarry.{RangeCarry}
use Rattle.gate_network.specs.Halves.{range_carry, halves_sum}

-- r is what the range of the rows p and q makes and passes on
abbrev pub RangeCarries : (p q : List Bool) → (at width : ℕ) → (r : RangeCarry) → Type 0
RangeCarries p q at width r = (n : ℕ) → width ≡ 2 ^ n → r ≡ range_carry n at p q

-- the range's sum is stored to the range's places of a row
abbrev pub RangeSums : (p q : List Bool) → (at width : ℕ) → (f : Bool) → (entry exit : List Bool) → Type 0
RangeSums p q at width f entry exit = (n : ℕ) → width ≡ 2 ^ n → exit ≡ sets entry at (halves_sum n at p q f)
