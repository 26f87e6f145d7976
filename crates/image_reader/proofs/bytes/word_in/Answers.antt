use native.Mathlib.Omega.{arith}
use Rattle.image.proofs.Places.{four_bytes}
use Rattle.image_reader.proofs.bytes.word_in.Goals as goal

pub returns : goal.returns
returns c = let a = c.args in omega (arith, c.from_le_bytes.ensures, four_bytes a.bytes.now a.at)
