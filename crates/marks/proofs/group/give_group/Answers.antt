use mathlib.Core.Path.{◌∙◌}
use Rattle.marks.specs.Marks.{with_group}
use Rattle.marks.proofs.group.give_group.Goals as goal

pub returns : goal.returns
unfolding with_group
returns c = c.store-2.ensures ∙ rw (c.store.ensures, c.clear.ensures, c.load-next.ensures)
