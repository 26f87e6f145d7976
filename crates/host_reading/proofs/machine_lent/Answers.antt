use Rattle.std.proofs.Common.{sym, ◌∙◌, ap, refl}
use Rattle.host_reading.specs.Layout.{machine_lent}
use Rattle.host_reading.proofs.Lengths.{lent-readable}
use Rattle.host_reading.proofs.machine_lent.Goals as goal

pub machine_in-requires : goal.machine_in-requires
machine_in-requires c = lent-readable _ _ _ _ (sym c.lent_formed.ensures ∙ c.if-lent_formed.true)

pub returns-then-lent_formed : goal.returns-then-lent_formed
unfolding machine_lent
returns-then-lent_formed c = rw (sym c.lent_formed.ensures ∙ c.if-lent_formed.true, c.machine_in.ensures)

pub returns-else-lent_formed : goal.returns-else-lent_formed
unfolding machine_lent
returns-else-lent_formed c = rw (sym c.lent_formed.ensures ∙ c.if-lent_formed.false)
