use native.Mathlib.Omega.{arith}
use Rattle.traverses.proofs.Reasons.{bounded}
use Rattle.traverse.proofs.Turns.{begins, next_fits, turn}
use Rattle.traverse.proofs.Answers.{all-run, taken}
use Rattle.traverse.proofs.carry_out.Goals as goal

pub loop-i-init : goal.loop-i-init
loop-i-init c = rw c.set_out-w.ensures (begins (bounded _ _ _ _ _ c.requires))

pub next-w-requires : goal.next-w-requires
next-w-requires c = next_fits (bounded _ _ _ _ _ c.requires) c.loop-i.invariant (omega (arith, c.file_count-i-end.ensures, c.loop-i-test.true))

pub overflow_cast-i : goal.overflow_cast-i
overflow_cast-i c = omega (arith, (bounded _ _ _ _ _ c.requires).number, c.file_count-i-end.ensures, c.loop-i-test.true)

pub returns-then-version-w : goal.returns-then-version-w
returns-then-version-w c = taken _ _ _ _ _ _ _ c.requires c.loop-i.invariant (omega (arith, c.file_count-i-end.ensures, c.loop-i-test.true)) c.next-w.ensures c.if-version-w.true c.stopped.ensures

pub loop-i-preserved : goal.loop-i-preserved
loop-i-preserved c = turn (bounded _ _ _ _ _ c.requires) c.loop-i.invariant (omega (arith, c.file_count-i-end.ensures, c.loop-i-test.true)) c.next-w.ensures c.if-version-w.false c.next-w.auto.memory c.next-w.auto.journal c.next-w.auto.map

pub returns : goal.returns
returns c = all-run _ _ _ _ _ _ _ c.requires c.loop-i.invariant (omega (arith, c.file_count-i-end.ensures, c.loop-i-test.false)) c.ended.ensures
