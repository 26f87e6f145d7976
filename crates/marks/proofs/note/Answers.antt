use mathlib.Core.Path.{sym, ◌∙◌}
use Rattle.marks.proofs.Marking.{known-marked, notes-known}
use Rattle.marks.proofs.note.Goals as goal

pub returns-then-is_marked : goal.returns-then-is_marked
returns-then-is_marked c =
    let first = c.args in
    let known = known-marked first.map.now first.journal.now first.pairs.now first.address (sym c.is_marked.ensures ∙ c.if-is_marked.true) in
    notes-known first.map.now first.journal.now first.pairs.now first.address first.former known

pub note_new-requires : goal.note_new-requires
note_new-requires c = sym c.is_marked.ensures ∙ c.if-is_marked.false

pub returns : goal.returns
returns c = c.note_new.ensures
