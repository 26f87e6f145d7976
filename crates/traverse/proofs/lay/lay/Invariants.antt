use Rattle.traverse.proofs.Laying.{At}
use Rattle.traverse.proofs.lay.lay.Given as goal

abbrev pub invariant-loop-j : goal.invariant-loop-j
invariant-loop-j l = At l.initial.memory l.initial.journal l.initial.map l.pairs l.words l.place l.memory l.journal l.map l.noted l.j
