-- The arithmetic unit in gates of one and two inputs on single bits, with the ripple adder. Document 01, "Clocks", its last paragraph.
-- Rows of bits stand lowest bit first and may have any width. The gates are `not`, `◌&&◌`, `◌||◌` and `xor`.
use Rattle.std.specs.Prelude.{ℕ, zero, suc, ◌+◌, ◌*◌, ◌/◌, ◌%◌, Bool, false, not, ◌&&◌, ◌||◌, List, [], ◌∷◌, eqb, get_or}
use Rattle.std.specs.Bool.{xor}
use Rattle.arithmetic.specs.Words.{as_number}
use Rattle.gate_network.specs.declared.Lines.{Lines}

-- ---- rows of bits and numbers

-- the number that a row of bits stands for
unfoldable pub value : List Bool → ℕ
value [] = 0
value (b ∷ m) = as_number b + 2 * value m

-- the n lowest bits of a number
unfoldable pub bits_of : ℕ → ℕ → List Bool
bits_of zero x = []
bits_of (suc n) x = eqb (x % 2) 1 ∷ bits_of n (x / 2)

-- ---- the ripple adder

-- the full adder
abbrev pub full_sum : Bool → Bool → Bool → Bool
full_sum a b c = xor (xor a b) c

abbrev pub full_carry : Bool → Bool → Bool → Bool
full_carry a b c = (a && b) || (xor a b && c)

-- full adders in a row, the carry rippling up
unfoldable pub ripple_sum : List Bool → List Bool → Bool → List Bool
ripple_sum [] m c = []
ripple_sum (a ∷ l) [] c = []
ripple_sum (a ∷ l) (b ∷ m) c = full_sum a b c ∷ ripple_sum l m (full_carry a b c)

unfoldable pub ripple_carry : List Bool → List Bool → Bool → Bool
ripple_carry [] m c = c
ripple_carry (a ∷ l) [] c = c
ripple_carry (a ∷ l) (b ∷ m) c = ripple_carry l m (full_carry a b c)

-- ---- what the adder is given

-- a selector: q where s is 1, else p
abbrev pub select : Bool → Bool → Bool → Bool
select s p q = (p && not s) || (q && s)

-- a generator: the entry of a table of four for the inputs a and b
abbrev pub entry : Bool → Bool → Bool → Bool → Bool → Bool → Bool
entry t00 t01 t10 t11 a b = select a (select b t00 t01) (select b t10 t11)

-- one place of the adder's first row: the table's entry for the bits of a and b, or in a shift the bit of a one place up
abbrev pub first_bit : Lines → Bool → Bool → Bool → Bool
first_bit l a b above = select l.shift (entry l.t00 l.t01 l.t10 l.t11 a b) above

-- one place of its second row: the bit of a or nothing, complemented for a difference
abbrev pub second_bit : Lines → Bool → Bool
second_bit l a = xor (a && l.second) l.turn

-- the rows; above the top place stands the bit that a shift takes in
unfoldable pub first_row : Lines → List Bool → List Bool → List Bool
first_row l [] b = []
first_row l (x ∷ a) [] = []
first_row l (x ∷ a) (y ∷ b) = first_bit l x y (get_or a 0 l.top) ∷ first_row l a b

unfoldable pub second_row : Lines → List Bool → List Bool
second_row l [] = []
second_row l (x ∷ a) = second_bit l x ∷ second_row l a

-- ---- the control lines

-- operations 1 and 5 step a by one
abbrev pub step_line : Bool → Bool → Bool
step_line o0 o1 = o0 && not o1

-- The control lines by the operation's four lines, the carry and a's sign. What they have the adder add:
--     operation    first row               second row    carry in
--     0            nothing                 a             0
--     1            a                       nothing       1
--     2            b                       a             c
--     3            b                       a             0
--     4 to 7       as 0 to 3               the complement of that of 0 to 3, and the carry in turned round
--     8, 9, 10     a shifted               nothing       0
--     11 to 15     xor, or, and, not a, a  nothing       0
abbrev pub lines_of : Bool → Bool → Bool → Bool → Bool → Bool → Lines
lines_of o0 o1 o2 o3 c sign =
    record {
      t00 = o3 && (o2 && (o1 && not o0));
      t01 = select o3 o1 (not o2 || not o0);
      t10 = select o3 (step_line o0 o1) (not (xor o0 o1));
      t11 = select o3 (o0 || o1) (o2 && (not o1 || o0));
      shift = o3 && (not o2 && not (o1 && o0));
      top = not o1 && select o0 c sign;
      second = not o3 && not (step_line o0 o1);
      turn = not o3 && o2;
      carry = not o3 && xor (step_line o0 o1 || ((o1 && not o0) && c)) o2;
    }

-- ---- the flags; N is the sum's top bit

-- carry out, or borrow: a difference is below zero where its sum with the complement does not carry; in a shift a's lowest bit
abbrev pub carry_out : Lines → Bool → Bool → Bool
carry_out l low c = (l.shift && low) || xor c l.turn

-- whether a bit of a row is 1, by gates in a row; Z is its complement
unfoldable pub any_of : List Bool → Bool
any_of [] = false
any_of (b ∷ m) = b || any_of m
