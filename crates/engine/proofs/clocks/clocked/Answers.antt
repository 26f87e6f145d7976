use Rattle.engine.proofs.Spending.{clocked-walks, clocked-empty}
use Rattle.engine.proofs.clocks.clocked.Goals as goal

pub returns-then-waits-position : goal.returns-then-waits-position
returns-then-waits-position c =
    let args = c.args in
    clocked-empty args.waits.now args.w c.if-waits-position.true c.requires.fits args.oa args.ob args.stored c.in_memory-mem_a.ensures
    c.in_memory-mem_b.ensures c.cost.ensures.value

pub returns : goal.returns
returns c =
    let args = c.args in
    clocked-walks args.waits.now args.w args.oa args.ob args.stored c.in_memory-mem_a.ensures
    c.in_memory-mem_b.ensures c.cost.ensures.value c.more-fetched.ensures.value
    c.more_if-with_a.ensures.value c.more_if-with_b.ensures.value c.more_if.ensures.value
