-- A machine and the bytes of its registers and flags.
use Prim.Native.Nat.{ℕ, ◌*◌, ◌^◌}
use mathlib.Core.Path.{◌≡◌, refl, sym, ap, ◌∙◌}
use mathlib.Core.Bool.{Bool, true, ◌&&◌, and-eq-true_iff}
use mathlib.Core.List.{List, [], ◌∷◌}
use native.Mathlib.Omega.{arith}
use lib.Dec.{leb}
use lib.ListN.{length}
use borrow.Author.Tests.{leb-true}
use Rattle.arithmetic.specs.Words.{as_number}
use Rattle.arithmetic.proofs.Bits.{one, digit-bit, bit-digit}
use Rattle.model.specs.declared.Flags.{Flags}
use Rattle.model.specs.declared.Machine.{Machine}
use Rattle.model.specs.Packed.{flag_numbers}
use Rattle.image.specs.Bytes.{word_bytes, words_in, Below}
use Rattle.image.specs.Format.{flags_formed}
use Rattle.image.specs.Reading.{machine_from}
use Rattle.image.proofs.Bytes.{length-word-bytes, words-of-bytes}

-- eight registers are 32 bytes
pub length-registers : (m : Machine) → length m.regs ≡ 8 → length (word_bytes m.regs) ≡ 32
length-registers m eight = length-word-bytes m.regs ∙ ap (λ (n : ℕ). 4 * n) eight

flag-formed : (t : Bool) → leb (as_number t) 1 ≡ true
flag-formed = one _ refl refl

pub flags-formed : (f : Flags) → flags_formed (flag_numbers f) ≡ true
flags-formed f = rw (flag-formed f.carry, flag-formed f.overflow, flag-formed f.negative, flag-formed f.zero)

pub machine-back : (m : Machine) → length m.regs ≡ 8 → Below (2 ^ 32) m.regs → machine_from (word_bytes m.regs) (flag_numbers m.flags) ≡ m
machine-back m l h =
    let e : words_in 8 (word_bytes m.regs) ≡ m.regs = ap (λ (n : ℕ). words_in n (word_bytes m.regs)) (sym l) ∙ words-of-bytes m.regs h in
    let f : Flags = m.flags in
    λ i. record {
      regs = e i;
      flags = record { carry = digit-bit f.carry refl i; overflow = digit-bit f.overflow refl i; negative = digit-bit f.negative refl i; zero = digit-bit f.zero refl i };
    }

four_back : (a b c d : Bool) → (a && b && c && d) ≡ true → (a ≡ true) × (b ≡ true) × (c ≡ true) × (d ≡ true)
four_back a b c d e =
    let p = (and-eq-true_iff (a && b && c) d).0 e in
    let q = (and-eq-true_iff (a && b) c).0 p.0 in
    let r = (and-eq-true_iff a b).0 q.0 in
    (r.0, r.1, q.1, p.1)

-- the flags that bytes hold, as bytes, are the bytes
pub flags-back : (registers l : List ℕ) → length l ≡ 4 → flags_formed l ≡ true → flag_numbers (machine_from registers l).flags ≡ l
flags-back registers (a ∷ b ∷ c ∷ d ∷ []) e h =
    let f = four_back (leb a 1) (leb b 1) (leb c 1) (leb d 1) h in
    let p₀ = bit-digit a (leb-true a 1 f.0) in
    let p₁ = bit-digit b (leb-true b 1 f.1) in
    let p₂ = bit-digit c (leb-true c 1 f.2) in
    let p₃ = bit-digit d (leb-true d 1 f.3) in
    λ i. p₀ i ∷ p₁ i ∷ p₂ i ∷ p₃ i ∷ []
flags-back registers [] e h = absurd (omega arith)
flags-back registers (a ∷ []) e h = absurd (omega arith)
flags-back registers (a ∷ b ∷ []) e h = absurd (omega arith)
flags-back registers (a ∷ b ∷ c ∷ []) e h = absurd (omega arith)
flags-back registers (a ∷ b ∷ c ∷ d ∷ x ∷ l) e h = absurd (omega arith)
