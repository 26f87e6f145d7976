use Rattle.std.proofs.Common.{◌≡◌, ◌++◌, length, take}
use Rattle.std.proofs.Math.ListN.{drop}
use Rattle.gate_network.specs.Gates.{ripple_sum, ripple_carry}
use Rattle.gates.proofs.ripple_adder.by_rippling.Given as goal

abbrev pub invariant-loop-i : goal.invariant-loop-i
invariant-loop-i g l = record {
  long : length l.out ≡ length l.a;
  carried : ripple_carry (drop l.i l.a) (drop l.i l.b) l.c ≡ ripple_carry l.a l.b l.carry;
  stored : take l.i l.out ++ ripple_sum (drop l.i l.a) (drop l.i l.b) l.c ≡ ripple_sum l.a l.b l.carry;
}
