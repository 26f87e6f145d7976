use Rattle.verdicts.proofs.resets_fit.Goals as goal

pub returns : goal.returns
returns c = rw (c.demand.ensures, c.rise.ensures)
