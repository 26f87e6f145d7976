use Rattle.gate_network.proofs.Worth.{adds-alike}
use Rattle.gate_network.proofs.Halves.{halves_add}
use Rattle.gates.proofs.halves_adder.HalvesAdder.add.Goals as goal

-- 32 is the fifth power of two
pub returns : goal.returns
returns c = adds-alike (halves_add 5 _ _ _ c.told-a c.told-b) c.by_halves.ensures.carry c.by_halves.ensures.sum
