use Rattle.std.proofs.Common.{◌+◌, ◌<◌, ◌∙◌, sym}
use native.Mathlib.Omega.{arith}
use Rattle.marks.proofs.Marking.{clears_on, cleared_all}
use Rattle.marks.proofs.group.clear.Goals as goal

pub loop-i-preserved : goal.loop-i-preserved
loop-i-preserved c =
    let less : c.loop-i.i < c.args.from + c.args.count = omega (arith, c.loop-i-test.true, c.min-i-end.ensures) in
    rw c.store.ensures (clears_on _ _ _ less) ∙ c.loop-i.invariant

pub returns : goal.returns
returns c =
    sym (cleared_all c.loop-i.map (c.args.from + c.args.count) c.loop-i.i (omega (arith, c.loop-i-test.false, c.min-i-end.ensures, c.loop-i.auto.map)))
    ∙ c.loop-i.invariant
