use Rattle.marks.proofs.group.has_spare.Goals as goal

pub returns : goal.returns
returns c = rw c.load-last.ensures
