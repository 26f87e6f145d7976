-- Packed flags: packing and unpacking are inverse, and a masked merge chooses each flag by its permit.
use Prim.Native.Nat.{ℕ, ◌+◌, ◌-◌, ◌*◌, ◌/◌, ◌%◌, ◌≤◌, ◌<◌}
use mathlib.Core.Path.{◌≡◌, refl, ap, ◌∙◌}
use mathlib.Core.Bool.{Bool, not, cond}
use native.Mathlib.Nat.{div-one, div-div-eq-div-mul}
use native.Mathlib.Omega.{arith}
use lib.Bits.{bit_and, bit_or, and_le_l, and_block, or_block}
use Rattle.arithmetic.specs.declared.AluOut.{AluOut}
use Rattle.arithmetic.specs.Words.{as_number}
use Rattle.arithmetic.proofs.Bits.{one, three, bit_le, digit-bit, low-nibble}
use Rattle.model.specs.declared.Flags.{Flags}
use Rattle.model.specs.Words.{field, bit}
use Rattle.model.specs.Alu.{flags_after}
use Rattle.model.specs.Packed.{packed_of, flags_of}

-- ---- packing and unpacking

pub flags-le : (f : Flags) → (as_number f.carry ≤ 1) × (as_number f.overflow ≤ 1) × (as_number f.negative ≤ 1) × (as_number f.zero ≤ 1)
flags-le f = (bit_le f.carry, bit_le f.overflow, bit_le f.negative, bit_le f.zero)

pub unpacks : (f : Flags) → flags_of (packed_of f) ≡ f
unfolding flags_of packed_of bit field
unpacks f =
    let c = bit_le f.carry in
    let v = bit_le f.overflow in
    let n = bit_le f.negative in
    let z = bit_le f.zero in
    rw (
      digit-bit f.carry {x = packed_of f / 8 % 2} (omega arith),
      digit-bit f.overflow {x = packed_of f / 4 % 2} (omega arith),
      digit-bit f.negative {x = packed_of f / 2 % 2} (omega arith),
      digit-bit f.zero {x = packed_of f / 1 % 2} (omega arith),
    )

-- the low four bits
packs : (x : ℕ) → packed_of (flags_of x) ≡ x % 16
unfolding flags_of packed_of bit field
packs x = rw (div-one x) (low-nibble x)

-- ---- the merge

-- where the mask p has a bit, that of g, and elsewhere that of f
abbrev merged : ℕ → ℕ → ℕ → ℕ → ℕ
merged f q g p = bit_or (bit_and f q) (bit_and g p)

digit-merged : (p g f : Bool) → merged (as_number f) (as_number (not p)) (as_number g) (as_number p) ≡ as_number (cond p g f)
digit-merged = three _ refl refl refl refl refl refl refl refl

and_digit : (b : Bool) (x : ℕ) → bit_and (as_number b) x < 2
and_digit b x = let s = bit_le b in omega (arith, and_le_l (as_number b) x)

-- one bit more
more : (f q g p : ℕ) (pb gb fb : Bool)
    → merged (f * 2 + as_number fb) (q * 2 + as_number (not pb)) (g * 2 + as_number gb) (p * 2 + as_number pb)
    ≡ merged f q g p * 2 + as_number (cond pb gb fb)
more f q g p pb gb fb =
    let fs = bit_le fb in
    let gs = bit_le gb in
    let ps = bit_le pb in
    let qs = bit_le (not pb) in
    ap (λ (x : ℕ). bit_or x (bit_and (g * 2 + as_number gb) (p * 2 + as_number pb))) (and_block 1 f q (as_number fb) (as_number (not pb)) (omega arith) (omega arith))
    ∙ ap (bit_or (bit_and f q * 2 + bit_and (as_number fb) (as_number (not pb)))) (and_block 1 g p (as_number gb) (as_number pb) (omega arith) (omega arith))
    ∙ or_block 1 (bit_and f q) (bit_and g p) (bit_and (as_number fb) (as_number (not pb))) (bit_and (as_number gb) (as_number pb)) (and_digit fb (as_number (not pb))) (and_digit gb (as_number pb))
    ∙ ap (λ (x : ℕ). merged f q g p * 2 + x) (digit-merged pb gb fb)

-- all four; the complement of a mask has its bits turned round
weighed : (f : Flags) → packed_of f ≡ ((as_number f.carry * 2 + as_number f.overflow) * 2 + as_number f.negative) * 2 + as_number f.zero
unfolding packed_of
weighed f = omega arith

abbrev inverted : Flags → Flags
inverted p = record { carry = not p.carry; overflow = not p.overflow; negative = not p.negative; zero = not p.zero }

inverted-weighs : (p : Flags) → 15 - packed_of p ≡ packed_of (inverted p)
unfolding packed_of
inverted-weighs p = omega (arith, both p.carry, both p.overflow, both p.negative, both p.zero)
  where
    both : (b : Bool) → as_number b + as_number (not b) ≡ 1
    both = one _ refl refl

-- each flag of g where p permits it, else of f
abbrev chosen : (p g f : Flags) → Flags
chosen p g f =
    record {
      carry = cond p.carry g.carry f.carry;
      overflow = cond p.overflow g.overflow f.overflow;
      negative = cond p.negative g.negative f.negative;
      zero = cond p.zero g.zero f.zero;
    }

merged-all : (p g f : Flags) → merged (packed_of f) (15 - packed_of p) (packed_of g) (packed_of p) ≡ packed_of (chosen p g f)
merged-all p g f =
    rw (inverted-weighs p, weighed f, weighed (inverted p), weighed g, weighed p, weighed (chosen p g f))
    (more _ _ _ _ p.zero g.zero f.zero
    ∙ ap (λ (x : ℕ). x * 2 + as_number (cond p.zero g.zero f.zero))
    (more _ _ _ _ p.negative g.negative f.negative
    ∙ ap (λ (x : ℕ). x * 2 + as_number (cond p.negative g.negative f.negative))
    (more _ _ _ _ p.overflow g.overflow f.overflow
    ∙ ap (λ (x : ℕ). x * 2 + as_number (cond p.overflow g.overflow f.overflow)) (digit-merged p.carry g.carry f.carry))))

-- the unit's flags
abbrev unit_flags : AluOut → Flags
unit_flags out = record { carry = out.carry; overflow = out.overflow; negative = out.negative; zero = out.zero }

-- the permits of a word are its bits 10 to 13
permitted : (word : ℕ) (f : Flags) (out : AluOut) → chosen (flags_of (word / 1024)) (unit_flags out) f ≡ flags_after word f out
unfolding flags_of flags_after bit field
permitted word f out =
    rw (div-div-eq-div-mul word 1024 8, div-div-eq-div-mul word 1024 4, div-div-eq-div-mul word 1024 2, div-div-eq-div-mul word 1024 1)

pub flags-set : (word flags : ℕ) (out : AluOut) {g : ℕ} → g ≡ packed_of (unit_flags out)
    → merged (flags % 16) (15 - word / 1024 % 16) g (word / 1024 % 16) ≡ packed_of (flags_after word (flags_of flags) out)
flags-set word flags out e =
    rw (e, ← (packs flags), ← (packs (word / 1024))) (merged-all (flags_of (word / 1024)) (unit_flags out) (flags_of flags) ∙ ap packed_of (permitted word (flags_of flags) out))
