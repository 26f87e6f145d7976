use Rattle.std.proofs.Common.{◌≡◌, ◌+◌, ◌-◌, replicate}
use Rattle.std.proofs.lemmas.List.Edits.{sets}
use Rattle.marks.proofs.group.clear.Given as goal

abbrev pub invariant-loop-i : goal.invariant-loop-i
invariant-loop-i l = sets l.map l.i (replicate (l.from + l.count - l.i) 0) ≡ sets l.initial.map l.from (replicate l.count 0)
