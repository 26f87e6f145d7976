use Rattle.std.proofs.Common.{arith}
use mathlib.Core.Bool.{xor}
use Rattle.gates.proofs.Ranges.{sum_one, sum-joined}
use Rattle.gates.proofs.halves_adder.+range_sum.Goals as goal

pub returns-then-width-eq1 : goal.returns-then-width-eq1
unfolding xor
returns-then-width-eq1 t c = sum_one c.args.a.now c.args.b.now c.args.at c.args.width c.args.carry c.args.out.now (omega arith)

pub returns : goal.returns
returns t c =
    sum-joined c.args.a.now c.args.b.now c.args.at c.args.width c.args.carry c.args.out.now c.if-width-eq1.false c.range_sum.ensures
    c.range_carry.ensures c.carry_past-between.ensures c.range_sum-2.ensures
