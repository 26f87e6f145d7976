use Rattle.host.proofs.Answers.{files-misfit, traverse_misfit, traverse_formed}
use Rattle.host.proofs.fm8502_traverse.Goals as goal

pub returns-then-files-ne0 : goal.returns-then-files-ne0
returns-then-files-ne0 c = files-misfit _ _ _ _ _ _ _ _ c.if-files-ne0.true

pub returns-in_default : goal.returns-in_default
returns-in_default c = traverse_misfit _ _ _ _ _ _ _ _ c.if-files-ne0.false _ c.machine_lent.ensures c.in_default.is

pub returns : goal.returns
returns c = traverse_formed _ _ _ _ _ _ _ _ c.if-files-ne0.false _ c.machine_lent.ensures c.in-Some.is _ _ _ c.traverse-r.ensures _ _ _ c.end_traverse.ensures
