use Rattle.std.proofs.Common.{◌∙◌, ◌*◌, ℕ, eqb, refl, rules, arith}
use Rattle.std.proofs.lemmas.Iterator.{YieldsList-from_range}
use Rattle.std.proofs.lemmas.Iterator.Search.{any_from_yields_List}
use borrow.Author.Tests.{tests, le-leb}
use Rattle.model.specs.Words.{word_at}
use Rattle.model.specs.Journal.{room_in}
use Rattle.marks.proofs.Marking.{listed_range}
use Rattle.marks.proofs.search.is_listed.Goals as goal

pub returns-then-pairs-journal : goal.returns-then-pairs-journal
returns-then-pairs-journal c =
    let journal = c.args.journal.now in
    let address = c.args.address in
    let pairs = c.args.pairs in
    any_from_yields_List (λ (k : ℕ). eqb (word_at journal (2 * k)) address) _ _ _ c.any.ensures.ran
    (YieldsList-from_range 0 pairs pairs refl (omega arith)) (λ x b q k. search (rules, tests))
    ∙ listed_range journal address pairs
    ∙ rw (le-leb pairs (room_in journal) c.if-pairs-journal.true)
