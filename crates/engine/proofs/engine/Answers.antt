use Prim.Native.Nat.{◌^◌, ◌<◌}
use mathlib.Core.Path.{sym}
use native.Mathlib.Omega.{arith}
use Rattle.model.specs.Waits.{wait_at}
use Rattle.engine.proofs.Spending.{begin-fits}
use Rattle.engine.proofs.Turns.{begins, same_start, from_start, clocks-fit, turn, stopped, full, finished}
use Rattle.engine.proofs.engine.Goals as goal

pub loop-i-init : goal.loop-i-init
loop-i-init c = begins (begin-fits _ _ c.begins_at.ensures)

pub returns-in-Err : goal.returns-in-Err
returns-in-Err c =
    from_start c.packed-flags.ensures c.begins_at.ensures
    (stopped c.loop-i.invariant c.loop-i-test.true c.step.ensures c.in-Err.is c.run_end.ensures)

pub returns-then-s : goal.returns-then-s
returns-then-s c =
    from_start c.packed-flags.ensures c.begins_at.ensures
    (full c.loop-i.invariant c.loop-i-test.true c.step.ensures c.in-Ok.is c.if-s.true (sym (same_start c.packed-flags.ensures)) c.full_end.ensures)

pub clocked-spent-requires-clause-few : goal.clocked-spent-requires-clause-few
unfolding wait_at
clocked-spent-requires-clause-few c =
    let few-at : c.args.count < 2 ^ 32 = omega (arith, c.ranges.count) in
    clocks-fit c.loop-i.invariant c.loop-i-test.true (λ p. omega (arith, c.type_inv.waits p)) few-at

pub loop-i-preserved : goal.loop-i-preserved
loop-i-preserved c = turn c.loop-i.invariant c.loop-i-test.true c.step.ensures c.in-Ok.is c.if-s.false c.clocked-spent.ensures

pub returns : goal.returns
returns c =
    from_start c.packed-flags.ensures c.begins_at.ensures
    (finished c.loop-i.invariant (omega (arith, c.loop-i.auto.i-end, c.loop-i-test.false)) c.run_end-2.ensures)
