use Rattle.host.proofs.Answers.{file-misfit, file-formed}
use Rattle.host.proofs.fm8502_file_run.Goals as goal

pub returns-in_default : goal.returns-in_default
returns-in_default c = file-misfit _ _ _ _ _ _ _ c.machine_lent.ensures c.in_default.is

pub returns : goal.returns
returns c = file-formed _ _ _ _ _ _ _ c.machine_lent.ensures c.in-Some.is _ _ _ c.file_run-r.ensures _ _ _ c.end_file_run.ensures
