use Prim.Native.Nat.{◌+◌, ◌-◌, ◌≤◌}
use mathlib.Core.Path.{◌≡◌}
use Rattle.text.specs.Text.{digit_count}
use Rattle.text.proofs.digits.count_digits.Given as goal

abbrev pub invariant-loop-rest : goal.invariant-loop-rest
invariant-loop-rest l = (1 ≤ l.count) × (l.rest + l.count ≤ l.n + 1) × (l.count + digit_count (l.n + 1 - l.count) l.rest ≡ 1 + digit_count l.n l.n)

abbrev pub decreases-loop-rest : goal.decreases-loop-rest
decreases-loop-rest l = l.rest
