use Rattle.std.proofs.Common.{ap}
use Rattle.host_calls.specs.Codes.{file_code}
use Rattle.host_ends.proofs.Ends.{ends-refused, not-finished, file-ended}
use Rattle.host_ends.proofs.end_file_run.Goals as goal

pub returns-in-Err : goal.returns-in-Err
returns-in-Err c = ends-refused _ _ _ _ _ _ _ _ not-finished c.in-Err.why (ap file_code c.in-Err.is) _ c.refusal_number.ensures

pub returns-in-Ok : goal.returns-in-Ok
returns-in-Ok c = file-ended _ _ _ _ _ _ c.in-Ok.is _ c.end_file.ensures.code c.end_file.ensures.parts c.put_result.ensures
