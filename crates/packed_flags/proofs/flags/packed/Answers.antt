use mathlib.Core.Path.{refl}
use native.Mathlib.Omega.{arith}
use Rattle.arithmetic.proofs.Bits.{bit_le}
use Rattle.model.specs.Packed.{packed_of}
use Rattle.model.proofs.Packed.{flags-le}
use Rattle.packed_flags.proofs.flags.packed.Goals as goal

pub overflow_mul-result : goal.overflow_mul-result
overflow_mul-result c = omega (arith, bit_le c.args.flags.carry)

pub overflow_mul-result-2 : goal.overflow_mul-result-2
overflow_mul-result-2 c = omega (arith, bit_le c.args.flags.overflow)

pub overflow_add-result : goal.overflow_add-result
overflow_add-result c = let l = flags-le c.args.flags in omega (arith, l.0, l.1)

pub overflow_mul-result-3 : goal.overflow_mul-result-3
overflow_mul-result-3 c = omega (arith, bit_le c.args.flags.negative)

pub overflow_add-result-2 : goal.overflow_add-result-2
overflow_add-result-2 c = let l = flags-le c.args.flags in omega (arith, l.0, l.1, l.2)

pub overflow_add-result-3 : goal.overflow_add-result-3
overflow_add-result-3 c = let l = flags-le c.args.flags in omega (arith, l.0, l.1, l.2, l.3)

pub returns : goal.returns
unfolding packed_of
returns c = refl
