use mathlib.Core.Path.{sym, ◌∙◌}
use borrow.Author.Tests.{ne_eqb}
use Rattle.model.specs.Words.{field, bit}
use Rattle.marks.specs.Marks.{marked}
use Rattle.marks.proofs.is_marked.Goals as goal

pub returns-then-group-eq0 : goal.returns-then-group-eq0
returns-then-group-eq0 c =
    let none = sym c.load-group.ensures ∙ c.if-group-eq0.true in
    rw none

pub returns : goal.returns
unfolding marked bit field
returns c =
    let loaded = c.load-group in
    rw (c.load-word.ensures, c.bit_place.ensures, ← loaded.ensures, ne_eqb loaded.result 0 c.if-group-eq0.false)
