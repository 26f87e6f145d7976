use Rattle.host_ends.proofs.codes.run_code.Goals as goal

pub returns-in-Err : goal.returns-in-Err
returns-in-Err c = rw (c.refusal_number.ensures, c.in-Err.is)
