-- The unit's network answers as the definition does, at every width of k + 1 bits and with any adder.
use Prim.Native.Nat.{ℕ, suc, ◌+◌, ◌-◌, ◌*◌, ◌/◌, ◌%◌, ◌^◌, ◌<◌}
use mathlib.Core.Path.{◌≡◌, refl, sym, ap, subst, ◌∙◌}
use mathlib.Core.Bool.{Bool, true, false, not, ◌&&◌, ◌||◌, xor, or-false}
use mathlib.Core.List.{List}
use native.Mathlib.Nat.{div-one}
use native.Mathlib.Omega.{arith}
use lib.ListN.{length, get_or}
use Rattle.arithmetic.specs.declared.AluOut.{AluOut}
use Rattle.arithmetic.specs.Words.{as_number, nibble, overflow_of}
use Rattle.arithmetic.specs.Alu.{plain_of, sum_of, difference_of, halved_of, answers, alu_at, alu_of}
use Rattle.arithmetic.proofs.Bits.{xor_false, xor_true, low-nibble}
use Rattle.arithmetic.proofs.Integers.{weight}
use Rattle.arithmetic.proofs.Sums.{same_answer, none-and, and_none}
use Rattle.gate_network.specs.declared.Lines.{Lines}
use Rattle.gate_network.specs.Gates.{value, bits_of, ripple_sum, ripple_carry, lines_of, first_row, second_row, carry_out, any_of}
use Rattle.gate_network.specs.Halves.{halves_sum, halves_carry}
use Rattle.gate_network.specs.Theorems.{Adds, AddsAt, out_of, UnitAtEveryWidth, UnitAround, RippleUnit, HalvesUnit}
use Rattle.gate_network.proofs.Worth.{ripple_adds, value-below, value-top, value_low, value_none, length-bits, bit_at, value-bits}
use Rattle.gate_network.proofs.RowWorth.{pick_first, pick_second, first-length, table-value, none-digits, a-digits, b-digits, and_digits, or_digits, xor_digits, not-value}
use Rattle.gate_network.proofs.RowWorth.{shift_value, second-length, second-value, second-turned}
use Rattle.gate_network.proofs.Halves.{halves_add}
use Rattle.gate_network.proofs.Adders.{flagged, adder_sum, adder_difference}

-- a shift puts the bit that it drops into the carry
abbrev dropped : Bool → Bool → AluOut → AluOut
dropped shift low o =
    record {
      result = o.result;
      carry = (shift && low) || o.carry;
      overflow = o.overflow;
      negative = o.negative;
      zero = o.zero;
    }

module _ (k : ℕ) (l : Lines) (a b s : List Bool) (d : Bool) (la : length a ≡ suc k) (lb : length b ≡ suc k)
    (h : Adds (first_row l a b) (second_row l a) l.carry s d) where
  same : length b ≡ length a
  same = lb ∙ sym la

  lp : length (first_row l a b) ≡ suc k
  lp = first-length l a b same ∙ la

  lq : length (second_row l a) ≡ suc k
  lq = second-length l a ∙ la

  ls : length s ≡ suc k
  ls = h.long ∙ lp

  -- N and Z by gates are those of the sum
  by-gates : out_of k l a b s d ≡ dropped l.shift (get_or a 0 false) (flagged k (first_row l a b) (second_row l a) s d l.turn)
  by-gates =
      λ i. record {
        result = value s;
        carry = carry_out l (get_or a 0 false) d;
        overflow = overflow_of (get_or (first_row l a b) k false) (get_or (second_row l a) k false) (get_or s k false);
        negative = value-top k s ls i;
        zero = value_none s i;
      }

  sum-of : l.turn ≡ false → flagged k (first_row l a b) (second_row l a) s d l.turn ≡ sum_of k (value (first_row l a b)) (weight l.second (value a)) l.carry
  sum-of t =
      ap (λ (u : Bool). flagged k (first_row l a b) (second_row l a) s d u) t ∙ adder_sum k (first_row l a b) (second_row l a) s l.carry d lp lq h
      ∙ ap (λ (y : ℕ). sum_of k (value (first_row l a b)) y l.carry) (second-value l t a)

  -- a sum, a difference, or nothing added to the first row, by what that is worth
  sums : {x : ℕ} {f : Bool} → l.shift ≡ false → l.turn ≡ false → l.carry ≡ f → value (first_row l a b) ≡ x → out_of k l a b s d ≡ sum_of k x (weight l.second (value a)) f
  sums e t g v = by-gates ∙ (λ i. dropped (e i) (get_or a 0 false) (sum-of t i)) ∙ (λ i. sum_of k (v i) (weight l.second (value a)) (g i))

  differences : {x : ℕ} (c : Bool) → l.shift ≡ false → l.turn ≡ true → l.carry ≡ not c → value (first_row l a b) ≡ x
      → out_of k l a b s d ≡ difference_of k x (weight l.second (value a)) c
  differences c e t g v =
      by-gates ∙ (λ i. dropped (e i) (get_or a 0 false) (flagged k (first_row l a b) (second_row l a) s d (t i)))
      ∙ adder_difference k (first_row l a b) (second_row l a) s l.carry d lp lq h (weight l.second (value a)) c g (second-turned l t a ∙ ap (λ (n : ℕ). 2 ^ n) la)
      ∙ ap (λ (x : ℕ). difference_of k x (weight l.second (value a)) c) v

  plain : {x : ℕ} → l.turn ≡ false → l.second ≡ false → l.carry ≡ false → value (first_row l a b) ≡ x
      → out_of k l a b s d ≡ dropped l.shift (get_or a 0 false) (plain_of k x)
  plain t e g v =
      by-gates ∙ ap (dropped l.shift (get_or a 0 false))
      (sum-of t ∙ (λ i. sum_of k (value (first_row l a b)) (weight (e i) (value a)) (g i)) ∙ and_none k (value (first_row l a b)) (value-below (first_row l a b) (suc k) lp) ∙ ap (plain_of k) v)

  complemented : l.shift ≡ false → l.t00 ≡ true → l.t01 ≡ true → l.t10 ≡ false → l.t11 ≡ false → value (first_row l a b) ≡ 2 ^ suc k - 1 - value a
  complemented e p q r u = omega (arith, not-value l e p q r u a b same ∙ ap (λ (n : ℕ). 2 ^ n) la)

  shifted : {t : Bool} → l.shift ≡ true → l.turn ≡ false → l.second ≡ false → l.carry ≡ false → l.top ≡ t → out_of k l a b s d ≡ halved_of k t (value a)
  unfolding halved_of
  shifted e t z g p =
      plain t z g (shift_value k l a b e la lb)
      ∙ same_answer k (ap (λ (t : Bool). value a / 2 + as_number t * 2 ^ k) p) ((λ j. (e j && get_or a 0 false) || false) ∙ or-false (get_or a 0 false) ∙ sym (value_low a)) refl

-- ---- the sixteen operations

pub unit_at_every_width : UnitAtEveryWidth
unfolding alu_at answers xor
unit_at_every_width k a b s d c la lb false false false false h =
    sums k _ a b s d la lb h refl refl refl (table-value _ _ refl none-digits a b (lb ∙ sym la))
    ∙ none-and k (value a) (value-below a (suc k) la)
unit_at_every_width k a b s d c la lb true false false false h = sums k _ a b s d la lb h refl refl refl (table-value _ _ refl a-digits a b (lb ∙ sym la))
unit_at_every_width k a b s d c la lb false true false false h = sums k _ a b s d la lb h refl refl (xor_false c) (table-value _ _ refl b-digits a b (lb ∙ sym la))
unit_at_every_width k a b s d c la lb true true false false h = sums k _ a b s d la lb h refl refl refl (table-value _ _ refl b-digits a b (lb ∙ sym la))
unit_at_every_width k a b s d c la lb false false true false h = differences k _ a b s d la lb h false refl refl refl (table-value _ _ refl none-digits a b (lb ∙ sym la))
unit_at_every_width k a b s d c la lb true false true false h = differences k _ a b s d la lb h true refl refl refl (table-value _ _ refl a-digits a b (lb ∙ sym la))
unit_at_every_width k a b s d c la lb false true true false h = differences k _ a b s d la lb h c refl refl (xor_true c) (table-value _ _ refl b-digits a b (lb ∙ sym la))
unit_at_every_width k a b s d c la lb true true true false h = differences k _ a b s d la lb h false refl refl refl (table-value _ _ refl b-digits a b (lb ∙ sym la))
unit_at_every_width k a b s d c la lb false false false true h = shifted k _ a b s d la lb h refl refl refl refl (pick_first c (get_or a k false))
unit_at_every_width k a b s d c la lb true false false true h = shifted k _ a b s d la lb h refl refl refl refl (pick_second c (get_or a k false) ∙ value-top k a la)
unit_at_every_width k a b s d c la lb false true false true h = shifted k _ a b s d la lb h refl refl refl refl refl
unit_at_every_width k a b s d c la lb true true false true h = plain k _ a b s d la lb h refl refl refl (table-value _ _ refl xor_digits a b (lb ∙ sym la))
unit_at_every_width k a b s d c la lb false false true true h = plain k _ a b s d la lb h refl refl refl (table-value _ _ refl or_digits a b (lb ∙ sym la))
unit_at_every_width k a b s d c la lb true false true true h = plain k _ a b s d la lb h refl refl refl (table-value _ _ refl and_digits a b (lb ∙ sym la))
unit_at_every_width k a b s d c la lb false true true true h = plain k _ a b s d la lb h refl refl refl (complemented k _ a b s d la lb h refl refl refl refl refl)
unit_at_every_width k a b s d c la lb true true true true h = plain k _ a b s d la lb h refl refl refl (table-value _ _ refl a-digits a b (lb ∙ sym la))

-- ---- around the two adders

-- any adder that adds rows of k + 1 bits will do
around : (k : ℕ) (sum : List Bool → List Bool → Bool → List Bool) (carry : List Bool → List Bool → Bool → Bool)
    → AddsAt (suc k) sum carry → UnitAround k sum carry
around k sum carry h a b c la lb o0 o1 o2 o3 =
    unit_at_every_width k a b _ _ c la lb o0 o1 o2 o3 (h _ _ _ (first-length _ a b (lb ∙ sym la) ∙ la) (second-length _ a ∙ la))

pub ripple_unit : RippleUnit
ripple_unit k = around k ripple_sum ripple_carry (ripple_adds (suc k))

pub halves_unit : HalvesUnit
halves_unit n k e = around k (halves_sum n 0) (halves_carry n 0) (λ p q f lp lq. halves_add n p q f (lp ∙ e) (lq ∙ e))

-- ---- words in, a word out

-- a bit of a word of 32
abbrev bit_of : ℕ → ℕ → Bool
bit_of x i = get_or (bits_of 32 x) i false

-- the control lines by the operation's number and the word a
abbrev steered : (n a : ℕ) → Bool → Lines
steered n a c = lines_of (bit_of n 0) (bit_of n 1) (bit_of n 2) (bit_of n 3) c (bit_of a 31)

-- the operation is the number's lowest four bits
operation : (n : ℕ) → nibble (bit_of n 3) (bit_of n 2) (bit_of n 1) (bit_of n 0) ≡ n % 16
operation n =
    rw (bit_at 32 n 3 false (omega arith), bit_at 32 n 2 false (omega arith), bit_at 32 n 1 false (omega arith), bit_at 32 n 0 false (omega arith), div-one n)
    (low-nibble n)

-- the values on the wires, each as the function that makes it ensures
pub gate-by : (n a b : ℕ) (c : Bool) {r : ℕ} {low d z : Bool} {l : Lines} {p q s : List Bool} → a < 2 ^ 32 → b < 2 ^ 32 → l ≡ steered n a c
    → p ≡ first_row l (bits_of 32 a) (bits_of 32 b) → q ≡ second_row l (bits_of 32 a) → Adds p q l.carry s d
    → r ≡ value s → low ≡ bit_of a 0 → z ≡ any_of s
    → ◌≡◌ {A = AluOut}
    (record {
      result = r;
      carry = carry_out l low d;
      overflow = overflow_of (get_or p 31 false) (get_or q 31 false) (get_or s 31 false);
      negative = get_or s 31 false;
      zero = not z;
    })
    (alu_of n a b c)
unfolding alu_of
gate-by n a b c {r} {low} {d} {z} {l} {p} {q} {s} ha hb hl hp hq added hr hlow hz =
    (λ i. record {
      result = hr i;
      carry = carry_out l (hlow i) d;
      overflow = overflow_of (get_or (hp i) 31 false) (get_or (hq i) 31 false) (get_or s 31 false);
      negative = get_or s 31 false;
      zero = not (hz i);
    })
    ∙ (λ i. out_of 31 (hl i) x y s d)
    ∙ unit_at_every_width 31 x y s d c (length-bits 32 a) (length-bits 32 b) (bit_of n 0) (bit_of n 1) (bit_of n 2) (bit_of n 3) added_rows
    ∙ (λ i. alu_at 31 (operation n i) (value-bits 32 a ha i) (value-bits 32 b hb i) c)
  where
    x : List Bool
    x = bits_of 32 a

    y : List Bool
    y = bits_of 32 b

    added_rows : Adds (first_row (hl 1) x y) (second_row (hl 1) x) (hl 1).carry s d
    added_rows =
        subst (λ (m : Lines). Adds (first_row m x y) (second_row m x) m.carry s d) hl
        (subst (λ (m : List Bool). Adds (first_row l x y) m l.carry s d) hq (subst (λ (m : List Bool). Adds m q l.carry s d) hp added))
