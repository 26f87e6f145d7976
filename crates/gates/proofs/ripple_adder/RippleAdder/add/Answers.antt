use Rattle.gate_network.proofs.Worth.{ripple_adds, adds-alike}
use Rattle.gates.proofs.ripple_adder.RippleAdder.add.Goals as goal

pub returns : goal.returns
returns c = adds-alike (ripple_adds 32 _ _ _ c.told-a c.told-b) c.by_rippling.ensures.carry c.by_rippling.ensures.sum
