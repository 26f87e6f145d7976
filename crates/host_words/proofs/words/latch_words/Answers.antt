use mathlib.Core.Path.{refl}
use Rattle.model.specs.Packed.{latch_words}
use Rattle.host_words.proofs.words.latch_words.Goals as goal

pub returns : goal.returns
unfolding latch_words
returns c = refl
