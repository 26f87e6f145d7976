use mathlib.Core.Path.{ap}
use Rattle.image.specs.Calls.{read_number}
use Rattle.host_ends.proofs.Ends.{turned_down, ends-refused, read_done}
use Rattle.host_ends.proofs.end_read.Goals as goal

pub returns-in-Err : goal.returns-in-Err
returns-in-Err c = ends-refused _ _ _ _ _ _ _ _ turned_down c.in-Err.why (ap read_number c.in-Err.is) _ c.refusal_number.ensures

pub returns-in-Ok : goal.returns-in-Ok
returns-in-Ok c = read_done _ _ _ _ _ _ _ c.in-Ok.is c.put_machine.ensures c.put_result.ensures
