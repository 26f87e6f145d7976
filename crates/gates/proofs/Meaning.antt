-- What the sums of the gate unit mean: its answer is the definition's at 32 bits.
use Prim.Native.Nat.{◌%◌}
use mathlib.Core.Path.{sym, subst}
use Rattle.arithmetic.specs.Alu.{alu_of}
use Rattle.arithmetic.specs.Meaning.{SumsMean}
use Rattle.arithmetic.proofs.Meaning.{sums-meaning}
use Rattle.gates.specs.Meaning.{GateUnitMeans}

pub gate-unit-means : GateUnitMeans
unfolding alu_of
gate-unit-means n a b c out ha hb e = subst (SumsMean 31 (n % 16) a b c) (sym e) (sums-meaning 31 (n % 16) a b c ha hb)
