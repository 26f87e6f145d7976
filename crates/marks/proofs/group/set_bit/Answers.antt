use mathlib.Core.Path.{◌∙◌}
use Rattle.marks.specs.Marks.{with_bit}
use Rattle.marks.proofs.Marking.{shifted}
use Rattle.marks.proofs.group.set_bit.Goals as goal

pub returns : goal.returns
unfolding with_bit
returns c =
    c.store.ensures
    ∙ rw (c.load-word.ensures, c.bit_place-at.ensures, c.load-group.ensures, shifted c.args.address)
