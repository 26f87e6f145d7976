use Rattle.host.proofs.Answers.{gate-misfit, gate-formed, lent_runs}
use Rattle.host.proofs.fm8502_clock.Goals as goal

pub returns-in_default : goal.returns-in_default
returns-in_default c = gate-misfit _ _ _ _ _ _ _ _ c.state_lent.ensures c.in_default.is

pub returns : goal.returns
returns c = gate-formed _ _ _ _ _ _ _ _ c.state_lent.ensures c.in-Some.is _ _ (lent_runs c.clock_once-r.ensures) _ _ _ c.end_gate_run.ensures
