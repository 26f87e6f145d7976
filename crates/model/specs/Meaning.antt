-- CR 13, what the sums of an instruction mean: "Throughout, the move bit is 0, and V and C are taken as computed, permitted or not".
use Rattle.std.specs.Prelude.{ℕ, ◌<◌, ◌≡◌, false}
use Rattle.arithmetic.specs.Meaning.{SumsMean}
use Rattle.model.specs.declared.Flags.{Flags}
use Rattle.model.specs.Words.{word_values}
use Rattle.model.specs.Alu.{is_move, operation, alu}

-- what the unit gives for instruction w, in either engine
abbrev pub InstructionMeans : Type 0
InstructionMeans =
    (w : ℕ) (flags : Flags) (a b : ℕ) → is_move w ≡ false → a < word_values → b < word_values
    → SumsMean 31 (operation w) a b flags.carry (alu w flags a b)
