use Rattle.host_ends.proofs.Ends.{write_refused, write_done}
use Rattle.host_ends.proofs.end_write.Goals as goal

pub returns-in-Err : goal.returns-in-Err
returns-in-Err c = write_refused _ _ _ c.in-Err.is _ c.refusal_number.ensures

pub returns-in-Ok : goal.returns-in-Ok
returns-in-Ok c = write_done _ _ _ c.in-Ok.is _ c.put_result.ensures
