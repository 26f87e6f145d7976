use Rattle.std.proofs.Common.{ℕ, ◌<◌, ◌≤◌, Bool, List, length, ap, ◌∙◌, arith}
use mathlib.Core.Bool.{xor}
use Rattle.std.proofs.Math.ListN.{length-set}
use Rattle.gate_network.specs.Gates.{bits_of, first_bit, second_bit}
use Rattle.gate_network.proofs.Worth.{length-bits}
use Rattle.gates.proofs.Turns.{turn, all-stored, first_step, second-step, first-end, second-end}
use Rattle.gates.proofs.rows.adder_rows.Goals as goal

pub loop-i-preserved : goal.loop-i-preserved
unfolding xor
loop-i-preserved c =
    let r = c.args in
    let a : List Bool = bits_of 32 r.a in
    let b : List Bool = bits_of 32 r.b in
    let m = c.loop-i in
    let i : ℕ = m.i in
    let ha : i < length a = omega (arith, length-bits 32 r.a) in
    let hb : i < length b = omega (arith, length-bits 32 r.b) in
    let x = c.bit-x.ensures in
    let entry = c.first_bit.ensures ∙ (λ j. first_bit r.l (x j) (c.bit.ensures j) (c.above.ensures j)) in
    record {
      first_long = simp length-set (omega arith);
      second_long = simp length-set (omega arith);
      first = turn m.first _ _ _ i _ _ (omega arith) entry (first_step r.l a b i ha hb) m.invariant.first;
      second = turn m.second _ _ _ i _ _ (omega arith) (ap (second_bit r.l) x) (second-step r.l a b i ha hb) m.invariant.second;
    }

pub returns-clause-first : goal.returns-clause-first
returns-clause-first c =
    let r = c.args in
    let m = c.loop-i in
    let e : length (bits_of 32 r.a) ≤ m.i = omega (arith, length-bits 32 r.a) in
    all-stored m.first _ _ m.i (omega arith) (first-end r.l (bits_of 32 r.a) (bits_of 32 r.b) m.i e) m.invariant.first

pub returns-clause-second : goal.returns-clause-second
returns-clause-second c =
    let r = c.args in
    let m = c.loop-i in
    let e : length (bits_of 32 r.a) ≤ m.i = omega (arith, length-bits 32 r.a) in
    all-stored m.second _ _ m.i (omega arith) (second-end r.l (bits_of 32 r.a) (bits_of 32 r.b) m.i e) m.invariant.second
