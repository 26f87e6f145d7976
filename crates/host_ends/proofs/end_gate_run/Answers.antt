use mathlib.Core.Path.{ap}
use Rattle.gate_machine.specs.Calls.{gate_number}
use Rattle.host_ends.proofs.Ends.{turned_down, ends-refused, gate-done}
use Rattle.host_ends.proofs.end_gate_run.Goals as goal

pub returns-in-Err : goal.returns-in-Err
returns-in-Err c = ends-refused _ _ _ _ _ _ _ _ turned_down c.in-Err.why (ap gate_number c.in-Err.is) _ c.refusal_number.ensures

pub returns-in-Ok : goal.returns-in-Ok
returns-in-Ok c = gate-done _ _ _ _ _ _ c.in-Ok.is c.put_state.ensures c.put_result.ensures
