use Rattle.host.proofs.Answers.{run-misfit, run-formed}
use Rattle.host.proofs.fm8502_run.Goals as goal

pub returns-in_default : goal.returns-in_default
returns-in_default c = run-misfit _ _ _ _ _ _ _ _ c.machine_lent.ensures c.in_default.is

pub returns : goal.returns
returns c = run-formed _ _ _ _ _ _ _ _ c.machine_lent.ensures c.in-Some.is _ _ c.run-r.ensures _ _ _ c.end_run.ensures
