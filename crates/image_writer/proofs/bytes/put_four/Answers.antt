use mathlib.Core.Path.{ap, ◌∙◌}
use native.Mathlib.Omega.{arith}
use lib.Seq.{sets}
use Rattle.image.proofs.Parts.{part_stored}
use Rattle.image_writer.proofs.bytes.put_four.Goals as goal

pub returns : goal.returns
returns c =
    let a = c.args in
    part_stored a.at _ a.out.now _ (omega (arith, c.copy_from_slice.ensures.len)) (omega arith) ∙ ap (sets a.out.now a.at) c.copy_from_slice.ensures.after
