use Rattle.ledger_text.proofs.Turns.{At}
use Rattle.ledger_text.proofs.running.put_run.Given as goal

abbrev pub invariant-loop-ran : goal.invariant-loop-ran
invariant-loop-ran l = At l.initial.machine l.initial.memory l.initial.writer l.memory l.writer l.machine l.ran l.clocks
