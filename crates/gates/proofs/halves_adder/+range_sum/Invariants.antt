use Rattle.gates.proofs.halves_adder.+range_sum.Given as goal

-- the width falls
abbrev pub decreases-range_sum : goal.decreases-range_sum
decreases-range_sum l = l.width
