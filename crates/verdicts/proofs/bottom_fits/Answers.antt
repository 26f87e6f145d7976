use Rattle.verdicts.proofs.bottom_fits.Goals as goal

pub returns : goal.returns
returns c = rw c.demand.ensures
