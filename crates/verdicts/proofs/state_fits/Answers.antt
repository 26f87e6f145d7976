use Rattle.verdicts.proofs.state_fits.Goals as goal

pub returns : goal.returns
returns c = rw (c.demand.ensures, c.position_fits.ensures, c.access_formed.ensures)
