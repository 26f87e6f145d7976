-- What holds of the adders and of the unit at every width. Document 01, "Clocks": "The arithmetic unit uses only one- and two-input
-- gates on single bits, with a ripple adder shown right for all widths together." Document 02, CR 8, for the adder by halves.
use Rattle.std.specs.Prelude.{ℕ, suc, ◌+◌, ◌*◌, ◌^◌, ◌≡◌, Bool, false, not, List, length, get_or}
use Rattle.arithmetic.specs.declared.AluOut.{AluOut}
use Rattle.arithmetic.specs.Words.{as_number, nibble, overflow_of}
use Rattle.arithmetic.specs.Alu.{alu_at}
use Rattle.gate_network.specs.declared.Lines.{Lines}
use Rattle.gate_network.specs.Gates.{value, ripple_sum, ripple_carry, first_row, second_row, lines_of, carry_out, any_of}
use Rattle.gate_network.specs.Halves.{halves_sum, halves_carry}

-- ---- the ripple adder ("a ripple adder shown right for all widths together")

-- s and d are a sum and a carry out of the rows p and q and the carry in f
pub record Adds (p q : List Bool) (f : Bool) (s : List Bool) (d : Bool) : Type 0 where
  pub long : length s ≡ length p
  pub worth : value s + as_number d * 2 ^ length p ≡ value p + value q + as_number f

-- an adder, given by its sum and its carry, adds rows of w bits
abbrev pub AddsAt : (w : ℕ) → (sum : List Bool → List Bool → Bool → List Bool) → (carry : List Bool → List Bool → Bool → Bool) → Type 0
AddsAt w sum carry = (p q : List Bool) (f : Bool) → length p ≡ w → length q ≡ w → Adds p q f (sum p q f) (carry p q f)

-- the ripple adder adds at every width
abbrev pub RippleAdds : Type 0
RippleAdds = (w : ℕ) → AddsAt w ripple_sum ripple_carry

-- ---- the adder by halves (CR 8: "For each width that is a power of two up to 32 the two must give the same sum and carry on all inputs, by
-- an argument over the width"; the argument is over the exponent n, so there is no bound)

-- its sum and its carry are the ripple adder's
pub record AsRipple (n : ℕ) (p q : List Bool) (f : Bool) : Type 0 where
  pub sum : halves_sum n 0 p q f ≡ ripple_sum p q f
  pub carry : halves_carry n 0 p q f ≡ ripple_carry p q f

-- so they are for any two rows of 2 ^ n bits
abbrev pub HalvesAsRipple : Type 0
HalvesAsRipple = (n : ℕ) (p q : List Bool) (f : Bool) → length p ≡ 2 ^ n → length q ≡ 2 ^ n → AsRipple n p q f

-- so it adds
abbrev pub HalvesAdd : Type 0
HalvesAdd = (n : ℕ) → AddsAt (2 ^ n) (halves_sum n 0) (halves_carry n 0)

-- ---- the unit ("The arithmetic unit uses only one- and two-input gates on single bits")

-- what the unit of k + 1 bits gives for a and b where s and d are its adder's sum and carry
abbrev pub out_of : ℕ → Lines → (a b s : List Bool) → (d : Bool) → AluOut
out_of k l a b s d =
    record {
      result = value s;
      carry = carry_out l (get_or a 0 false) d;
      overflow = overflow_of (get_or (first_row l a b) k false) (get_or (second_row l a) k false) (get_or s k false);
      negative = get_or s k false;
      zero = not (any_of s);
    }

-- for each operation, given by its four lines, it answers as the definition does, at every width of k + 1 bits and around any adder that
-- adds
abbrev pub UnitAtEveryWidth : Type 0
UnitAtEveryWidth =
    (k : ℕ) (a b s : List Bool) (d c : Bool) → length a ≡ suc k → length b ≡ suc k → (o0 o1 o2 o3 : Bool)
    → let l = lines_of o0 o1 o2 o3 c (get_or a k false) in
    Adds (first_row l a b) (second_row l a) l.carry s d
    → out_of k l a b s d ≡ alu_at k (nibble o3 o2 o1 o0) (value a) (value b) c

-- that it does so around one adder, given by its sum and its carry, at a width of k + 1 bits
abbrev pub UnitAround : ℕ → (sum : List Bool → List Bool → Bool → List Bool) → (carry : List Bool → List Bool → Bool → Bool) → Type 0
UnitAround k sum carry =
    (a b : List Bool) (c : Bool) → length a ≡ suc k → length b ≡ suc k → (o0 o1 o2 o3 : Bool)
    → let l = lines_of o0 o1 o2 o3 c (get_or a k false) in
    out_of k l a b (sum (first_row l a b) (second_row l a) l.carry) (carry (first_row l a b) (second_row l a) l.carry)
    ≡ alu_at k (nibble o3 o2 o1 o0) (value a) (value b) c

-- it does around the ripple adder, at every width
abbrev pub RippleUnit : Type 0
RippleUnit = (k : ℕ) → UnitAround k ripple_sum ripple_carry

-- and around the adder by halves, at every width that is a power of two
abbrev pub HalvesUnit : Type 0
HalvesUnit = (n k : ℕ) → suc k ≡ 2 ^ n → UnitAround k (halves_sum n 0) (halves_carry n 0)
