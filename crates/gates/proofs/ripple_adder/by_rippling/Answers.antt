use Rattle.std.proofs.Common.{◌<◌, Bool, List, length, sym, refl, ◌∙◌, arith}
use mathlib.Core.Bool.{xor}
use Rattle.std.proofs.Math.ListN.{length-set}
use Rattle.gates.proofs.Turns.{turn, all-stored, ripple_sum_step, ripple_carry_step, ripple_sum_end, ripple_carry_end}
use Rattle.gates.proofs.ripple_adder.by_rippling.Goals as goal

pub loop-i-preserved : goal.loop-i-preserved
unfolding xor
loop-i-preserved g c =
    let a : List Bool = c.args.a.now in
    let b : List Bool = c.args.b.now in
    let m = c.loop-i in
    let ha : m.i < length a = omega arith in
    let hb : m.i < length b = omega arith in
    record {
      long = simp length-set (omega arith);
      carried = sym (ripple_carry_step a b m.c m.i ha hb) ∙ m.invariant.carried;
      stored = turn m.out _ _ _ m.i _ _ (omega arith) refl (ripple_sum_step a b m.c m.i ha hb) m.invariant.stored;
    }

pub returns-clause-carry : goal.returns-clause-carry
returns-clause-carry g c = let m = c.loop-i in ripple_carry_end c.args.a.now c.args.b.now m.c m.i (omega arith) ∙ m.invariant.carried

pub returns-clause-sum : goal.returns-clause-sum
returns-clause-sum g c =
    let m = c.loop-i in
    all-stored m.out _ _ m.i (omega arith) (ripple_sum_end c.args.a.now c.args.b.now m.c m.i (omega arith)) m.invariant.stored
