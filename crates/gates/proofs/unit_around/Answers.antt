use Rattle.std.proofs.Common.{ℕ, ap, ◌∙◌, arith}
use mathlib.Core.Bool.{xor}
use Rattle.arithmetic.specs.Alu.{alu_of}
use Rattle.gate_network.proofs.Network.{gate-by}
use Rattle.gates.proofs.unit_around.Goals as goal

pub returns : goal.returns
unfolding xor
returns g c =
    let args = c.args in
    let lines = rw (c.bit.ensures, c.bit-2.ensures, c.bit-3.ensures, c.bit-4.ensures, c.bit-5.ensures) at c.control-l.ensures in
    gate-by c.from-lines.result args.a args.b args.carry (omega arith) (omega arith) lines
    c.adder_rows.ensures.first c.adder_rows.ensures.second c.add-c.ensures c.from_bits.ensures c.bit-6.ensures c.any.ensures
    ∙ ap (λ (n : ℕ). alu_of n args.a args.b args.carry) c.from-lines.ensures
