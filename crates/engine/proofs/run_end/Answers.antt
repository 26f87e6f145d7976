use Rattle.engine.proofs.run_end.Goals as goal

pub returns : goal.returns
returns c = rw c.unpacked-flags.ensures
