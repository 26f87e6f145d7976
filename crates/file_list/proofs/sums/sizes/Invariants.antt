use Prim.Native.Nat.{◌+◌, ◌*◌, ◌≤◌}
use mathlib.Core.Path.{◌≡◌}
use lib.ListN.{drop}
use Rattle.traverses.specs.Files.{files_in, sizes}
use Rattle.file_list.proofs.sums.sizes.Given as goal

abbrev pub invariant-loop-i : goal.invariant-loop-i
invariant-loop-i l = (l.sum ≤ l.i * 4_294_967_295) × (l.sum + sizes (drop l.i (files_in l.files)) ≡ sizes (files_in l.files))
