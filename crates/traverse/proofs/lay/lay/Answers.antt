use Rattle.traverse.proofs.Laying.{begins, turn, stops, ends}
use Rattle.traverse.proofs.lay.lay.Goals as goal

pub loop-j-init : goal.loop-j-init
loop-j-init c = begins

pub returns-then-n : goal.returns-then-n
returns-then-n c = stops c.loop-j.invariant c.requires.some c.loop-j-test.true c.lay_one-n.ensures c.if-n.true

pub loop-j-preserved : goal.loop-j-preserved
loop-j-preserved c = turn c.loop-j.invariant c.requires.some c.loop-j-test.true c.lay_one-n.ensures c.if-n.false c.lay_one-n.auto.map

pub returns : goal.returns
returns c = ends c.loop-j.invariant c.loop-j-test.false
