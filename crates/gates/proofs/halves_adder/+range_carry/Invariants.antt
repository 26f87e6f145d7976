use Rattle.gates.proofs.halves_adder.+range_carry.Given as goal

-- the width falls
abbrev pub decreases-range_carry : goal.decreases-range_carry
decreases-range_carry l = l.width
