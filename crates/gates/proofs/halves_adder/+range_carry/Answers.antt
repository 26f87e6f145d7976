use Rattle.std.proofs.Common.{arith}
use mathlib.Core.Bool.{xor}
use Rattle.gates.proofs.Ranges.{carry-one, carry-joined}
use Rattle.gates.proofs.halves_adder.+range_carry.Goals as goal

pub returns-then-width-eq1 : goal.returns-then-width-eq1
unfolding xor
returns-then-width-eq1 t c = carry-one c.args.a.now c.args.b.now c.args.at c.args.width (omega arith)

pub returns : goal.returns
returns t c = carry-joined c.args.a.now c.args.b.now c.args.at c.args.width c.if-width-eq1.false c.range_carry-low.ensures c.range_carry-high.ensures
