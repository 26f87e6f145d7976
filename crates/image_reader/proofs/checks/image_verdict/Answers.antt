use Rattle.std.proofs.Common.{sym, ◌∙◌, arith}
use Rattle.model.proofs.Verdicts.{leaves}
use Rattle.image_reader.proofs.Answers.{head_accepted, refused-head, accepted-head}
use Rattle.image_reader.proofs.checks.image_verdict.Goals as goal

pub returns-in_err-head_verdict : goal.returns-in_err-head_verdict
returns-in_err-head_verdict c = leaves _ c.from_residual.ensures.1 ∙ refused-head c.args.bytes.now c.args.room (sym c.in_err-head_verdict.was ∙ c.head_verdict.ensures)

pub tail_verdict-requires : goal.tail_verdict-requires
tail_verdict-requires c =
    let a = c.args in
    let h = head_accepted a.bytes.now a.room (sym c.head_verdict.ensures ∙ c.in_ok-head_verdict.was) in
    omega (arith, c.word_count.ensures, h.0)

pub returns : goal.returns
returns c =
    let a = c.args in
    accepted-head a.bytes.now a.room _ (sym c.in_ok-head_verdict.was ∙ c.head_verdict.ensures) c.word_count.ensures c.tail_verdict.ensures
