use Rattle.host.proofs.Answers.{write_misfit, write_formed}
use Rattle.host.proofs.fm8502_image_write.Goals as goal

pub returns-in_default : goal.returns-in_default
returns-in_default c = write_misfit _ _ _ _ _ _ c.machine_lent.ensures c.in_default.is

pub returns : goal.returns
returns c = write_formed _ _ _ _ _ _ c.machine_lent.ensures c.in-Some.is _ _ c.write-r.ensures _ _ c.end_write.ensures
