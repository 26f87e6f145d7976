use Rattle.traverse.proofs.stopped.Goals as goal

pub returns-then-full : goal.returns-then-full
returns-then-full c = rw c.if-full.true

pub returns : goal.returns
returns c = rw c.if-full.false
