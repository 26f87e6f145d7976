use native.Mathlib.Omega.{arith}
use Rattle.image.proofs.Places.{two-pairs}
use Rattle.image_reader.proofs.checks.word_count.Goals as goal

pub returns : goal.returns
returns c = omega (arith, c.pair_at.ensures.is, c.pair_at-2.ensures.is, two-pairs c.args.bytes.now 49)
