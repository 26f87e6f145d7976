use native.Mathlib.Omega.{arith}
use Rattle.image.specs.Format.{fields_for}
use Rattle.image_writer.proofs.fields.image_size.Goals as goal

pub returns : goal.returns
unfolding fields_for
returns c = omega arith
