use Rattle.host.proofs.Answers.{read-misfit, read-formed}
use Rattle.host.proofs.fm8502_image_read.Goals as goal

pub returns-in_default : goal.returns-in_default
returns-in_default c = read-misfit _ _ _ _ _ c.machine_lent.ensures c.in_default.is

pub returns : goal.returns
returns c = read-formed _ _ _ _ _ c.machine_lent.ensures c.in-Some.is _ _ c.read-r.ensures _ _ _ c.end_read.ensures
