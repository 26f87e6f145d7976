-- CR 13, what the sums of the gate unit mean: what the definition's sums mean, at its 32 bits.
use Rattle.std.specs.Prelude.{ℕ, ◌%◌, ◌^◌, ◌<◌, ◌≡◌, Bool}
use Rattle.arithmetic.specs.declared.AluOut.{AluOut}
use Rattle.arithmetic.specs.Alu.{alu_of}
use Rattle.arithmetic.specs.Meaning.{SumsMean}

-- whatever `gate_unit` returns by its contract, which is the equation here; the low four bits of its first argument are the operation
abbrev pub GateUnitMeans : Type 0
GateUnitMeans =
    (operation a b : ℕ) (c : Bool) (out : AluOut) → a < 2 ^ 32 → b < 2 ^ 32 → out ≡ alu_of operation a b c → SumsMean 31 (operation % 16) a b c out
