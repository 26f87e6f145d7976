use Rattle.gates.proofs.Ranges.{halves_whole}
use Rattle.gates.proofs.halves_adder.by_halves.Goals as goal

pub returns-clause-sum : goal.returns-clause-sum
returns-clause-sum c = let args = c.args in halves_whole args.a.now args.b.now args.carry args.out.now c.told-out c.range_sum.ensures
