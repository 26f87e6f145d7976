use native.Mathlib.Omega.{arith}
use Rattle.image.proofs.Places.{two_bytes}
use Rattle.image_reader.proofs.bytes.pair_at.Goals as goal

pub returns : goal.returns
returns c =
    let a = c.args in
    let first = c.byte_at.ensures in
    let second = c.byte_at-2.ensures in
    record { is = omega (arith, first.is, second.is, two_bytes a.bytes.now a.at); small = omega (arith, first.small, second.small) }
