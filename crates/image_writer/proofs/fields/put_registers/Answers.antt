use mathlib.Core.Path.{◌≡◌}
use mathlib.Core.List.{List}
use native.Mathlib.Omega.{arith}
use lib.ListN.{length}
use borrow.Author.Rules.{rules}
use Prim.Native.Nat.{ℕ}
use Rattle.image.specs.Bytes.{word_bytes}
use Rattle.image.specs.Format.{registers_field}
use Rattle.image.proofs.Bytes.{length-word-bytes}
use Rattle.image_writer.proofs.Puts.{field_put}
use Rattle.image_writer.proofs.fields.put_registers.Goals as goal

pub returns : goal.returns
returns c =
    let a = c.args in
    let h = c.put_header in
    let regs : List ℕ = a.regs.now in
    let eight : length regs ≡ 8 = search rules in
    field_put registers_field a.out.now h.new.out _ a.at 32 (word_bytes regs) h.ensures c.put_words.ensures (omega (arith, length-word-bytes regs))
