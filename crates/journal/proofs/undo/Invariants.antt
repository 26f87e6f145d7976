use Rattle.std.proofs.Common.{◌≡◌}
use Rattle.journal.specs.Undo.{undone}
use Rattle.journal.proofs.undo.Given as goal

abbrev pub invariant-loop-k : goal.invariant-loop-k
invariant-loop-k l = undone l.k l.journal l.memory ≡ undone l.initial.k l.journal l.initial.memory
