use Rattle.verdicts.proofs.start_fits.Goals as goal

pub returns : goal.returns
returns c = rw (c.demand.ensures, c.position_fits.ensures)
