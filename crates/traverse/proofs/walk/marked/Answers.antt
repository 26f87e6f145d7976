use native.Mathlib.Omega.{arith}
use Rattle.traverse.proofs.Masks.{bit_shifted, mask_fits}
use Rattle.traverse.proofs.walk.marked.Goals as goal

pub overflow_add-result : goal.overflow_add-result
overflow_add-result c = omega (arith, bit_shifted c.args.i c.requires.0, mask_fits c.args.i c.requires.0 c.requires.1)
