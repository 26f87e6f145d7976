use Rattle.std.proofs.Common.{rules}
use Prim.Native.Nat.{◌+◌, ◌≤◌}
use native.Mathlib.Omega.{arith}
use Rattle.ledger_text.proofs.Turns.{begins, near_start, total_fits, turn, stopped, finished}
use Rattle.ledger_text.proofs.running.put_run.Goals as goal

pub loop-ran-init : goal.loop-ran-init
loop-ran-init c = begins

pub put_ending-requires : goal.put_ending-requires
put_ending-requires c = near_start c.loop-ran.invariant c.new-writer.ensures.start.1 c.put_heading.ensures

pub returns-then-step-eq0 : goal.returns-then-step-eq0
returns-then-step-eq0 c =
    stopped c.loop-ran.invariant c.run_one-step.ensures c.requires c.if-step-eq0.true c.loop-ran-test.true
    c.new-writer.ensures.start c.put_heading.ensures c.ending_of.ensures c.put_ending.ensures (search rules) c.size.ensures

pub overflow_add-clocks : goal.overflow_add-clocks
overflow_add-clocks c =
    let fit_at : c.loop-ran.clocks + c.run_one-step.result.clocks ≤ 200 = total_fits c.loop-ran.invariant c.run_one-step.ensures c.requires in
    omega (arith, fit_at)

pub put_line-requires : goal.put_line-requires
put_line-requires c = near_start c.loop-ran.invariant c.new-writer.ensures.start.1 c.put_heading.ensures

pub loop-ran-preserved : goal.loop-ran-preserved
loop-ran-preserved c =
    turn c.loop-ran.invariant c.run_one-step.ensures c.requires c.if-step-eq0.false c.loop-ran-test.true
    c.run_one-step.auto.memory c.load-word.ensures c.put_line.ensures

pub put_ending-requires-2 : goal.put_ending-requires-2
put_ending-requires-2 c = near_start c.loop-ran.invariant c.new-writer.ensures.start.1 c.put_heading.ensures

pub returns : goal.returns
returns c =
    finished c.loop-ran.invariant c.loop-ran-test.false c.new-writer.ensures.start c.put_heading.ensures
    c.put_ending-2.ensures (search rules) c.size-2.ensures
