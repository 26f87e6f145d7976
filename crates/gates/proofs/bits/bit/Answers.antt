use mathlib.Core.Path.{sym}
use mathlib.Core.Bool.{false}
use Rattle.gate_network.proofs.Worth.{bit_at}
use Rattle.gates.proofs.bits.bit.Goals as goal

pub returns : goal.returns
returns c = sym (bit_at 32 c.args.word c.args.place false c.requires)
