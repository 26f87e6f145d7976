use Prim.Native.Nat.{ℕ, ◌+◌, ◌-◌}
use mathlib.Core.Path.{ap, ◌∙◌}
use native.Mathlib.Omega.{arith}
use Rattle.text.specs.Text.{digit_count}
use Rattle.text.proofs.Figures.{places-one, places-turn}
use Rattle.text.proofs.digits.count_digits.Goals as goal

pub loop-rest-init : goal.loop-rest-init
loop-rest-init c = (omega arith, omega arith, ap (λ (k : ℕ). 1 + digit_count k c.args.n) (omega arith))

pub overflow_add-count : goal.overflow_add-count
overflow_add-count c = omega arith

pub loop-rest-smaller : goal.loop-rest-smaller
loop-rest-smaller c = omega arith

pub loop-rest-preserved : goal.loop-rest-preserved
loop-rest-preserved c =
    let at = c.loop-rest in
    let n = c.args.n in
    (omega arith, omega arith, places-turn n at.count at.rest c.loop-rest-test.true at.invariant.1 ∙ at.invariant.2)

pub returns : goal.returns
returns c = omega (arith, places-one (c.args.n + 1 - c.loop-rest.count) c.loop-rest.rest c.loop-rest-test.false, c.loop-rest.invariant.2)
