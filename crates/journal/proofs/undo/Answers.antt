use Rattle.std.proofs.Common.{ℕ, ap, ◌∙◌, arith}
use Rattle.journal.specs.Undo.{undone}
use Rattle.journal.proofs.Journals.{undone-none, undone-more}
use Rattle.journal.proofs.undo.Goals as goal

pub loop-k-preserved : goal.loop-k-preserved
loop-k-preserved c = rw c.store.ensures (undone-more c.loop-k.k c.args.journal.now c.loop-k.memory (omega arith)) ∙ c.loop-k.invariant

pub returns : goal.returns
returns c =
    let journal = c.args.journal.now in
    undone-none c.loop-k.k journal c.loop-k.memory (omega arith) ∙ c.loop-k.invariant
    ∙ ap (λ (n : ℕ). undone n journal c.args.memory.now) c.min-k.ensures
