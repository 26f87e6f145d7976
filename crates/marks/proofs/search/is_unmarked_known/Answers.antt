use Rattle.std.proofs.Common.{◌≡◌, Bool, true, false, not, ap, sym, ◌∙◌}
use borrow.Author.Tests.{eq-eqb, ne_eqb, eqb-true}
use Rattle.marks.proofs.Marking.{known-paged, known-spare, known-searched}
use Rattle.marks.proofs.search.is_unmarked_known.Goals as goal
use Rattle.marks.proofs.search.is_unmarked_known.Goals.{then-load-eq0, else-load-eq0}

turned : (t : Bool) {u : Bool} → not t ≡ u → t ≡ not u
turned true e = ap not e
turned false e = ap not e

pub returns-then-not-has_spare : goal.returns-then-not-has_spare
returns-then-not-has_spare c =
    let first = c.args in
    let value = c.if-not-has_spare.true in
    elim c.if-load-eq0.branch [
      | then-load-eq0 w ↦
          c.is_listed.ensures
          ∙ known-searched first.map.now first.journal.now first.pairs first.address (eq-eqb _ _ (sym c.load.ensures ∙ w.if-load-eq0.true))
          (sym w.has_spare.ensures ∙ turned _ (sym w.value-is ∙ value))
      | else-load-eq0 w ↦ absurd (w.if-load-eq0.false (eqb-true _ _ (sym w.value-is ∙ value)))
    ]

pub returns-else-not-has_spare : goal.returns-else-not-has_spare
returns-else-not-has_spare c =
    let first = c.args in
    let value = c.if-not-has_spare.false in
    elim c.if-load-eq0.branch [
      | then-load-eq0 w ↦
          value
          ∙ known-spare first.map.now first.journal.now first.pairs first.address (eq-eqb _ _ (sym c.load.ensures ∙ w.if-load-eq0.true))
          (sym w.has_spare.ensures ∙ turned _ (sym w.value-is ∙ value))
      | else-load-eq0 w ↦
          value
          ∙ known-paged first.map.now first.journal.now first.pairs first.address c.requires (ne_eqb _ _ (λ e. w.if-load-eq0.false (c.load.ensures ∙ e)))
    ]
