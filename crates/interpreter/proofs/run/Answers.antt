use native.Mathlib.Omega.{arith}
use Rattle.interpreter.proofs.Answers.{run-refused, run-carried, position-fits}
use Rattle.interpreter.proofs.run.Goals as goal

pub overflow_cast-after : goal.overflow_cast-after
overflow_cast-after c = omega (arith, position-fits _ c.run_verdict.ensures c.in-Ok.is c.engine-e.ensures)

pub returns-in-Err : goal.returns-in-Err
returns-in-Err c = run-refused _ c.run_verdict.ensures c.in-Err.is

pub returns-in-Ok : goal.returns-in-Ok
returns-in-Ok c = run-carried _ c.run_verdict.ensures c.in-Ok.is c.engine-e.ensures
