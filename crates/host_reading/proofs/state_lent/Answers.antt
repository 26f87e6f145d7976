use Rattle.std.proofs.Common.{sym, ◌∙◌, ap, refl}
use Rattle.host_reading.specs.Layout.{state_lent}
use Rattle.host_reading.proofs.Lengths.{lent-readable}
use Rattle.host_reading.proofs.state_lent.Goals as goal

pub state_in-requires : goal.state_in-requires
state_in-requires c = lent-readable _ _ _ _ (sym c.lent_formed.ensures ∙ c.if-lent_formed.true)

pub returns-then-lent_formed : goal.returns-then-lent_formed
unfolding state_lent
returns-then-lent_formed c = rw (sym c.lent_formed.ensures ∙ c.if-lent_formed.true, c.state_in.ensures)

pub returns-else-lent_formed : goal.returns-else-lent_formed
unfolding state_lent
returns-else-lent_formed c = rw (sym c.lent_formed.ensures ∙ c.if-lent_formed.false)
