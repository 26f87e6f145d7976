use mathlib.Core.Path.{◌≡◌}
use native.Mathlib.Omega.{arith}
use lib.ListN.{length}
use borrow.Author.Rules.{rules}
use Rattle.image_writer.proofs.Puts.{image-put}
use Rattle.image_writer.proofs.fields.put_image.Goals as goal

pub returns : goal.returns
returns c =
    let size = c.image_size-end in
    let a = c.args in
    let eight : length a.machine.regs ≡ 8 = search rules in
    image-put a.version a.machine a.memory.now a.out.now c.put_four.new.out c.put_registers.new.out c.put_flags.new.out
    c.put_count.new.out c.put_memory.new.out _ _ eight (omega (arith, size.ensures))
    c.put_four.ensures c.put_registers.ensures c.put_flags.ensures c.put_count.ensures c.put_memory.ensures c.put_header.ensures
