use Prim.Native.Nat.{◌≤◌}
use mathlib.Core.Path.{sym, ap}
use mathlib.Core.Bool.{Bool, cond, and-eq-true_iff}
use native.Mathlib.Omega.{arith}
use borrow.Author.Tests.{leb-true}
use Rattle.host_reading.proofs.reading.row_in.Goals as goal

pub overflow_cast-result : goal.overflow_cast-result
overflow_cast-result c = let h : c.args.row ≤ 255 = leb-true _ _ ((and-eq-true_iff _ _).0 c.if-row-left.true).0 in omega arith

pub returns-then-row-left : goal.returns-then-row-left
returns-then-row-left c = sym (ap (λ (t : Bool). cond t c.args.row 255) c.if-row-left.true)

pub returns-else-row-left : goal.returns-else-row-left
returns-else-row-left c = sym (ap (λ (t : Bool). cond t c.args.row 255) c.if-row-left.false)
