-- What the sums of an instruction mean: with the move bit 0 the unit is asked for the word's operation, which has four bits.
use Prim.Native.Nat.{ℕ}
use mathlib.Core.Path.{◌≡◌, sym, ap, subst, ◌∙◌}
use mathlib.Core.Bool.{Bool, false, cond}
use native.Mathlib.Nat.{mod-eq_of_lt}
use Rattle.arithmetic.specs.Alu.{alu_at, alu_of}
use Rattle.arithmetic.specs.Meaning.{SumsMean}
use Rattle.arithmetic.proofs.Meaning.{sums-meaning}
use Rattle.model.specs.declared.Flags.{Flags}
use Rattle.model.specs.Alu.{is_move, operation, alu}
use Rattle.model.specs.Meaning.{InstructionMeans}
use Rattle.model.proofs.Conditions.{operation-lt}

computes : (w : ℕ) (flags : Flags) (a b : ℕ) → is_move w ≡ false → alu w flags a b ≡ alu_at 31 (operation w) a b flags.carry
unfolding alu alu_of
computes w flags a b e =
    ap (λ (m : Bool). alu_of (cond m 0 (operation w)) a b flags.carry) e
    ∙ ap (λ (n : ℕ). alu_at 31 n a b flags.carry) (mod-eq_of_lt (operation-lt w))

pub instruction-means : InstructionMeans
instruction-means w flags a b e ha hb =
    subst (SumsMean 31 (operation w) a b flags.carry) (sym (computes w flags a b e)) (sums-meaning 31 (operation w) a b flags.carry ha hb)
