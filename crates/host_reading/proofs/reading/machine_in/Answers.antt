use mathlib.Core.Path.{refl}
use Rattle.host_reading.specs.Layout.{machine_in}
use Rattle.host_reading.proofs.reading.machine_in.Goals as goal

pub returns : goal.returns
unfolding machine_in
returns c = refl
