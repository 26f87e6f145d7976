use Rattle.std.proofs.Common.{◌≡◌, ◌++◌, length, take}
use Rattle.std.proofs.Math.ListN.{drop}
use Rattle.gate_network.specs.Gates.{bits_of, first_row, second_row}
use Rattle.gates.proofs.rows.adder_rows.Given as goal

abbrev pub invariant-loop-i : goal.invariant-loop-i
invariant-loop-i l = record {
  first_long : length l.first ≡ 32;
  second_long : length l.second ≡ 32;
  first : take l.i l.first ++ first_row l.l (drop l.i (bits_of 32 l.a)) (drop l.i (bits_of 32 l.b)) ≡ first_row l.l (bits_of 32 l.a) (bits_of 32 l.b);
  second : take l.i l.second ++ second_row l.l (drop l.i (bits_of 32 l.a)) ≡ second_row l.l (bits_of 32 l.a);
}
