use Rattle.verdicts.proofs.gate_state.access_formed.Goals as goal

pub returns-then-s : goal.returns-then-s
returns-then-s c = rw (c.if-s.true, c.is_access.ensures)

pub returns : goal.returns
returns c = rw c.if-s.false
