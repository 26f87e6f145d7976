use mathlib.Core.Path.{refl}
use Rattle.model.specs.Packed.{flag_numbers}
use Rattle.image.specs.Format.{flags_field}
use Rattle.image_writer.proofs.Puts.{field_put}
use Rattle.image_writer.proofs.fields.put_flags.Goals as goal

pub returns : goal.returns
returns c =
    let a = c.args in
    let h = c.put_header in
    field_put flags_field a.out.now h.new.out _ a.at 4 (flag_numbers a.flags) h.ensures c.put_four.ensures refl
