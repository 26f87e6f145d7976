use Rattle.traverse.proofs.Turns.{At}
use Rattle.traverse.proofs.carry_out.Given as goal

abbrev pub invariant-loop-i : goal.invariant-loop-i
invariant-loop-i l = At l.initial.memory l.bottom l.initial.journal l.words l.files l.start l.version l.memory l.journal l.map l.w l.i
