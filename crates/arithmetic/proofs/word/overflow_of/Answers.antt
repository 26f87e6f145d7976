use Rattle.std.proofs.Common.{refl}
use mathlib.Core.Bool.{xor}
use Rattle.arithmetic.proofs.word.overflow_of.Goals as goal

pub returns : goal.returns
unfolding xor
returns c = refl
