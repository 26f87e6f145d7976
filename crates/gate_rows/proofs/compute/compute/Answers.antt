use Rattle.model.proofs.Packed.{unpacks}
use Rattle.gate_rows.proofs.compute.compute.Goals as goal

pub returns : goal.returns
returns c =
    λ regs.
    rw (
      c.chosen-next.ensures,
      c.in_memory.ensures,
      c.operand_b.ensures,
      c.stores.ensures,
      c.packed.ensures,
      unpacks c.args.s.flags,
      c.flags_after_apart-after.ensures,
      c.unit_of-out.ensures,
    )
