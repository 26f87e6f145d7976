use mathlib.Core.Path.{◌∙◌}
use Rattle.model.proofs.Packed.{unpacks}
use Rattle.effects.proofs.flags_after_apart.Goals as goal

pub returns : goal.returns
returns c = c.unpacked.ensures ∙ rw (c.flags_after_packed.ensures, unpacks, c.packed.ensures, unpacks)
