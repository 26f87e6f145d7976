use Rattle.model.specs.Waits.{wait_at}
use Rattle.model.proofs.Waits.{next-below}
use Rattle.engine.proofs.clocks.more.Goals as goal

pub returns-clause-value : goal.returns-clause-value
unfolding wait_at
returns-clause-value c = rw c.next_position.ensures

pub returns-clause-within : goal.returns-clause-within
returns-clause-within c = rw c.next_position.ensures (next-below c.args.waits.now c.args.w.position c.requires.within)
