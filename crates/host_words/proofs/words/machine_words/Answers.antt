use mathlib.Core.Path.{refl}
use Rattle.host_words.specs.Words.{machine_words}
use Rattle.host_words.proofs.words.machine_words.Goals as goal

pub returns : goal.returns
unfolding machine_words
returns c = refl
