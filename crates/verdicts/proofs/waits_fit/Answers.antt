use Rattle.verdicts.proofs.waits_fit.Goals as goal

pub returns : goal.returns
returns c = rw c.demand.ensures
