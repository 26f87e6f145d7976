use mathlib.Core.Path.{sym}
use Rattle.image.specs.Bytes.{bytes_of}
use Rattle.image.specs.Format.{count_field}
use Rattle.image.proofs.Bytes.{length-bytes}
use Rattle.image_writer.proofs.Puts.{field_put}
use Rattle.image_writer.proofs.fields.put_count.Goals as goal

pub returns : goal.returns
returns c =
    let a = c.args in
    let h = c.put_header in
    field_put (count_field a.words) a.out.now h.new.out _ a.at 4 (bytes_of 4 a.words) h.ensures c.put_word.ensures (sym (length-bytes 4 a.words))
