use mathlib.Core.Path.{sym, ◌∙◌}
use Rattle.host_ends.proofs.Ends.{run-written, run-unwritten}
use Rattle.host_ends.proofs.end_run.Goals as goal

pub returns-then-carried_out : goal.returns-then-carried_out
returns-then-carried_out c = run-written c.args.r _ c.run_code-code.ensures _ _ (sym c.carried_out.ensures ∙ c.if-carried_out.true) _ _ c.put_machine.ensures c.put_result.ensures

pub returns-else-carried_out : goal.returns-else-carried_out
returns-else-carried_out c = run-unwritten c.args.r _ c.run_code-code.ensures _ _ (sym c.carried_out.ensures ∙ c.if-carried_out.false)
