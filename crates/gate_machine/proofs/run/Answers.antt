use mathlib.Core.Path.{sym, ◌∙◌}
use Rattle.gate_machine.proofs.Answers.{run-carried, run-refused}
use Rattle.gate_machine.proofs.run.Goals as goal

pub run_resets-end-requires : goal.run_resets-end-requires
run_resets-end-requires c = sym c.gate_verdict.ensures ∙ c.in-Ok.is

pub returns-in-Err : goal.returns-in-Err
returns-in-Err c = run-refused c.gate_verdict.ensures c.in-Err.is

pub returns-in-Ok : goal.returns-in-Ok
returns-in-Ok c = run-carried c.gate_verdict.ensures c.in-Ok.is c.run_resets-end.ensures
