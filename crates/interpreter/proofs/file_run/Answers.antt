use Rattle.interpreter.proofs.FileAnswers.{file-refused, file-carried}
use Rattle.interpreter.proofs.file_run.Goals as goal

pub returns-in-Err : goal.returns-in-Err
returns-in-Err c = file-refused c.file_verdict.ensures c.in-Err.is

pub returns-in-Ok : goal.returns-in-Ok
returns-in-Ok c = file-carried c.file_verdict.ensures c.in-Ok.is c.engine-e.ensures c.file_end.ensures
