use Rattle.std.proofs.Common.{ℕ, List}
use Rattle.model.specs.declared.Machine.{Machine}
use Prim.Native.Nat.{◌+◌}
use mathlib.Core.Path.{◌≡◌, sym, ◌∙◌}
use native.Mathlib.Omega.{arith}
use lib.ListN.{length}
use borrow.Author.Rules.{rules}
use Rattle.model.proofs.Verdicts.{leaves, memory-bounds}
use Rattle.image.specs.Format.{span_of, image_of}
use Rattle.image.proofs.Inverse.{size}
use Rattle.image.proofs.Loaded.{version-small}
use Rattle.image_writer.proofs.Answers.{write_refused, write_no_room, write_no_version, write_carried}
use Rattle.image_writer.proofs.write.Goals as goal

image_length : (version : ℕ) (machine : Machine) (memory : List ℕ) → length machine.regs ≡ 8
    → length (image_of version machine memory) ≡ 56 + span_of (length memory)
image_length version machine memory eight = omega (arith, size version machine memory eight)

pub image_size-size-requires : goal.image_size-size-requires
image_size-size-requires c = (memory-bounds c.args.memory.now (sym c.memory_fits.ensures ∙ c.in_ok-memory_fits.was)).1

pub returns-then-out-size : goal.returns-then-out-size
returns-then-out-size c =
    let a = c.args in
    write_no_room a.memory.now a.machine a.version a.out.now (sym c.in_ok-memory_fits.was ∙ c.memory_fits.ensures)
    (omega (arith, c.if-out-size.true, c.image_size-size.ensures, image_length c.args.version c.args.machine c.args.memory.now (search rules)))

pub returns-then-not-is_version : goal.returns-then-not-is_version
returns-then-not-is_version c =
    let a = c.args in
    write_no_version a.memory.now a.machine a.version a.out.now (sym c.in_ok-memory_fits.was ∙ c.memory_fits.ensures)
    (omega (arith, c.if-out-size.false, c.image_size-size.ensures, image_length c.args.version c.args.machine c.args.memory.now (search rules))) (sym c.is_version.ensures ∙ c.if-not-is_version.true)

pub overflow_cast-version : goal.overflow_cast-version
overflow_cast-version c = omega (arith, version-small c.args.version (sym c.is_version.ensures ∙ c.if-not-is_version.false))

pub put_image-requires : goal.put_image-requires
put_image-requires c =
    let fits = sym c.memory_fits.ensures ∙ c.in_ok-memory_fits.was in
    ((memory-bounds c.args.memory.now fits).1, omega (arith, c.image_size-size.ensures, c.if-out-size.false))

pub returns-in_err-memory_fits : goal.returns-in_err-memory_fits
returns-in_err-memory_fits c =
    let a = c.args in
    rw (leaves _ c.from_residual.ensures.1)
    (write_refused a.memory.now a.machine a.version a.out.now (sym c.in_err-memory_fits.was ∙ c.memory_fits.ensures))

pub returns : goal.returns
returns c =
    let a = c.args in
    let n = c.image_size-size.ensures in
    write_carried a.memory.now a.machine a.version a.out.now (sym c.in_ok-memory_fits.was ∙ c.memory_fits.ensures) _ _
    (omega (arith, c.if-out-size.false, n, image_length c.args.version c.args.machine c.args.memory.now (search rules)))
    (sym c.is_version.ensures ∙ c.if-not-is_version.false) c.put_image.ensures (n ∙ sym (image_length c.args.version c.args.machine c.args.memory.now (search rules)))
