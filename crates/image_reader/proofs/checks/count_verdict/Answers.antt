use Rattle.std.proofs.Common.{ap, ◌∙◌, leb, drop, refl}
use Rattle.model.specs.declared.Refusal.TheVariants.{ShortMemory}
use Rattle.model.specs.Refusals.{demand, ◌then◌, Verdict}
use Rattle.model.proofs.Verdicts.{leaves, stops, passes}
use Rattle.image.specs.Format.{count_field}
use Rattle.image.proofs.Headers.{with_rule}
use Rattle.image_reader.proofs.Head.{count-checked}
use Rattle.image_reader.proofs.checks.count_verdict.Goals as goal

pub returns-in_err-header_verdict : goal.returns-in_err-header_verdict
returns-in_err-header_verdict c = with_rule (count_field c.args.room) (drop 46 c.args.bytes.now) (leaves _ c.from_residual.ensures.1 ∙ stops _ c.in_err-header_verdict.was) c.header_verdict.ensures refl

pub returns-in_err-demand : goal.returns-in_err-demand
returns-in_err-demand c =
    let a = c.args in
    let held : Verdict = demand (leb c.word_count-words.result a.room) ShortMemory in
    with_rule (count_field a.room) (drop 46 a.bytes.now) (leaves _ c.from_residual-in_err-demand.ensures.1 ∙ stops held c.in_err-demand.was ∙ passes _ c.in_ok-header_verdict.was) c.header_verdict.ensures
    (ap (λ (v : Verdict). v then held) c.demand.ensures ∙ count-checked a.bytes.now _ a.room c.word_count-words.ensures)

pub returns : goal.returns
returns c =
    let a = c.args in
    let held : Verdict = demand (leb c.word_count-words.result a.room) ShortMemory in
    with_rule (count_field a.room) (drop 46 a.bytes.now) (c.demand-2.ensures ∙ passes held c.in_ok-demand.was ∙ passes _ c.in_ok-header_verdict.was) c.header_verdict.ensures
    (ap (λ (v : Verdict). v then held) c.demand.ensures ∙ count-checked a.bytes.now _ a.room c.word_count-words.ensures)
