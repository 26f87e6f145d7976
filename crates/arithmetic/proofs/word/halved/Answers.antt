use Rattle.std.proofs.Common.{refl, arith}
use Rattle.arithmetic.specs.Alu.{halved_of}
use Rattle.arithmetic.proofs.Bits.{bit_le}
use Rattle.arithmetic.proofs.Sums.{same_answer}
use Rattle.arithmetic.proofs.word.halved.Goals as goal

pub overflow_mul-result : goal.overflow_mul-result
overflow_mul-result c = omega (arith, bit_le c.args.top)

pub overflow_add-result : goal.overflow_add-result
overflow_add-result c = omega (arith, bit_le c.args.top)

pub returns : goal.returns
unfolding halved_of
returns c = same_answer 31 (omega arith) refl refl
