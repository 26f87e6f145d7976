use Rattle.step.proofs.Steps.{leaves, stepped-all, step-stops}
use Rattle.step.proofs.step.Goals as goal

pub returns-in_err-f : goal.returns-in_err-f
returns-in_err-f c = step-stops c.fetch.ensures c.in_err-f.was (leaves _ c.from_residual.ensures.1)

pub returns : goal.returns
returns c = stepped-all c.fetch.ensures c.in_ok-f.was c.finish.ensures
