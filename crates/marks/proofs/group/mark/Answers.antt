use Rattle.std.proofs.Common.{sym, ◌∙◌}
use borrow.Author.Tests.{eq-eqb, ne_eqb}
use Rattle.marks.proofs.Marking.{mark_paged, mark_given, mark_none}
use Rattle.marks.proofs.group.mark.Goals as goal
use Rattle.marks.proofs.group.mark.Goals.{then-load-eq0+else-not-has_spare, else-load-eq0}

pub returns-then-not-has_spare : goal.returns-then-not-has_spare
returns-then-not-has_spare c =
    mark_none c.args.map.now c.args.address (eq-eqb _ _ (sym c.load.ensures ∙ c.if-load-eq0.true)) (sym c.if-not-has_spare.ensures)

pub returns : goal.returns
returns c =
    let map = c.args.map.now in
    let address = c.args.address in
    c.set_bit.ensures
    ∙ elim c.if-load-eq0.branch [
      | then-load-eq0+else-not-has_spare w ↦
          let none = eq-eqb _ _ (sym c.load.ensures ∙ w.if-load-eq0.true) in
          rw (w.map-is, w.give_group.ensures) (mark_given map address none (sym w.has_spare.ensures ∙ w.if-not-has_spare.false))
      | else-load-eq0 w ↦ rw w.map-is (mark_paged map address (ne_eqb _ _ (λ e. w.if-load-eq0.false (c.load.ensures ∙ e))))
    ]
