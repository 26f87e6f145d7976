use Rattle.std.proofs.Common.{rules, ap, sym, ◌∙◌, reverse, arith}
use Rattle.std.specs.List.{fold}
use Rattle.std.specs.Slice.Iter.{iter_rest}
use Rattle.std.proofs.lemmas.List.Folds.{fold-map}
use Rattle.gates.proofs.Folds.{put_in, fold-value}
use Rattle.gates.proofs.bits.from_bits.Goals as goal

pub returns : goal.returns
returns c =
    let run = c.rfold.ensures.runs in
    let p = run.0 in
    let items = (c.iter.ensures.runs_back p p.seen).4 run.2 ∙ ap (λ s. reverse (iter_rest s)) run.1 ∙ ap reverse c.iter.ensures.rest in
    run.3 (λ r x. put_in r x.now) (λ r x s f k. search rules)
    ∙ sym (fold-map put_in (λ x. x.now) 0 p.items)
    ∙ ap (fold put_in 0) items
    ∙ fold-value c.args.bits.now (omega arith)
