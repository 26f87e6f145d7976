use mathlib.Core.Path.{◌∙◌}
use Rattle.marks.specs.Marks.{forgotten}
use Rattle.marks.proofs.forget.Goals as goal

pub returns : goal.returns
unfolding forgotten
returns c = c.store.ensures ∙ rw c.clear.ensures
