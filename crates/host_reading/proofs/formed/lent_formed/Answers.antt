use mathlib.Core.Path.{refl}
use Rattle.host_reading.specs.Layout.{lent_formed}
use Rattle.host_reading.proofs.formed.lent_formed.Goals as goal

pub returns : goal.returns
unfolding lent_formed
returns c = refl
