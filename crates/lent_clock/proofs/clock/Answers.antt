use Rattle.lent_clock.proofs.clock.Goals as goal

pub returns : goal.returns
returns c = c.run.ensures
