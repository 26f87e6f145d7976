use Prim.Native.Nat.{◌+◌}
use mathlib.Core.Path.{ap₂, ◌∙◌}
use native.Mathlib.Numerals.{add-one}
use native.Mathlib.Omega.{arith}
use lib.ListN.{set, length-set}
use lib.Seq.{sets}
use Rattle.image.proofs.Parts.{part_stored, two_low_first}
use Rattle.image_writer.proofs.bytes.put_header.Goals as goal

pub returns : goal.returns
returns c =
    let a = c.args in
    let size = c.copy_from_slice.ensures.after ∙ c.to_le_bytes.ensures ∙ two_low_first a.size in
    part_stored (a.at + 1) _ (set a.out.now a.at a.tag) _ (omega (arith, c.copy_from_slice.ensures.len)) (omega (arith, length-set a.out.now a.at a.tag))
    ∙ ap₂ (sets (set a.out.now a.at a.tag)) (add-one a.at) size
