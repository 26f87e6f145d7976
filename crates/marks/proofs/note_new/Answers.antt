use mathlib.Core.Path.{sym, ◌∙◌}
use native.Mathlib.Omega.{arith}
use lib.ListN.{length-set}
use Rattle.marks.proofs.Marking.{notes-known, notes-full, notes-new}
use Rattle.marks.proofs.note_new.Goals as goal

pub returns-then-is_unmarked_known : goal.returns-then-is_unmarked_known
returns-then-is_unmarked_known c =
    let first = c.args in
    notes-known first.map.now first.journal.now first.pairs.now first.address first.former (sym c.is_unmarked_known.ensures ∙ c.if-is_unmarked_known.true)

pub returns-then-journal-n : goal.returns-then-journal-n
returns-then-journal-n c =
    let first = c.args in
    let new = sym c.is_unmarked_known.ensures ∙ c.if-is_unmarked_known.false in
    notes-full first.map.now first.journal.now first.pairs.now first.address first.former new c.if-journal-n.true

pub bounds-journal-n-2 : goal.bounds-journal-n-2
bounds-journal-n-2 c = simp length-set (omega arith)

pub returns : goal.returns
returns c =
    let first = c.args in
    let new = sym c.is_unmarked_known.ensures ∙ c.if-is_unmarked_known.false in
    rw c.mark.ensures (notes-new first.map.now first.journal.now first.pairs.now first.address first.former new c.if-journal-n.false)
