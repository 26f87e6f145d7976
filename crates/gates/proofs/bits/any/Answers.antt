use Rattle.std.proofs.Common.{rules, ap, ◌||◌, ◌∙◌}
use Rattle.std.specs.Slice.Iter.{iter_rest}
use Rattle.gate_network.specs.Gates.{any_of}
use Rattle.gates.proofs.Folds.{any-fold}
use Rattle.gates.proofs.bits.any.Goals as goal

pub returns : goal.returns
returns c =
    let run = c.fold.ensures.runs in
    let p = run.0 in
    let items = (c.iter.ensures.runs p p.seen).4 run.2 ∙ ap iter_rest run.1 ∙ c.iter.ensures.rest in
    run.3 (λ r x. r || x.now) (λ r x s f k. search rules) ∙ any-fold _ p.items ∙ ap any_of items
