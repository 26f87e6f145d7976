use Prim.Native.Nat.{ℕ, ◌+◌}
use mathlib.Core.Path.{sym, ◌∙◌}
use mathlib.Core.Bool.{false}
use native.Mathlib.Omega.{arith}
use lib.ListN.{get_or-eq_default}
use Rattle.gate_network.specs.Gates.{bits_of}
use Rattle.gate_network.proofs.Worth.{length-bits, bit_at}
use Rattle.gates.proofs.bits.above.Goals as goal

pub returns-then-place-lt31 : goal.returns-then-place-lt31
returns-then-place-lt31 c =
    let word : ℕ = c.args.word in
    let up : ℕ = c.args.place + 1 in
    c.bit.ensures ∙ bit_at 32 word up false (omega arith) ∙ sym (bit_at 32 word up c.args.top (omega arith))

pub returns-else-place-lt31 : goal.returns-else-place-lt31
returns-else-place-lt31 c = sym (get_or-eq_default (bits_of 32 c.args.word) c.args.top (omega (arith, length-bits 32 c.args.word)))
