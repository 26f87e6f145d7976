use Prim.Native.Nat.{ℕ, ◌*◌}
use mathlib.Core.Path.{sym}
use mathlib.Core.List.{List}
use lib.ListN.{length}
use Rattle.image.specs.Bytes.{word_bytes}
use Rattle.image.specs.Format.{words_field}
use Rattle.image.proofs.Bytes.{length-word-bytes}
use Rattle.image_writer.proofs.Puts.{field_put}
use Rattle.image_writer.proofs.fields.put_word_field.Goals as goal

pub returns : goal.returns
returns c =
    let a = c.args in
    let h = c.put_header in
    let words : List ℕ = a.words.now in
    field_put (words_field (length words)) a.out.now h.new.out _ a.at (4 * length words) (word_bytes words) h.ensures c.put_words.ensures (sym (length-word-bytes words))
