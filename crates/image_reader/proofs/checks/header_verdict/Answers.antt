use mathlib.Core.Path.{sym, ◌∙◌}
use native.Mathlib.Omega.{arith}
use Rattle.image.proofs.Headers.{cut-header, wrong_tag, wrong_length, cut-value, whole-field}
use Rattle.image_reader.proofs.checks.header_verdict.Goals as goal

pub returns-then-bytes-value : goal.returns-then-bytes-value
returns-then-bytes-value c = let a = c.args in cut-header a.tag a.due a.at a.bytes.now (omega (arith, c.if-bytes-value.true))

pub returns-then-byte_at-tag : goal.returns-then-byte_at-tag
returns-then-byte_at-tag c =
    let a = c.args in
    wrong_tag a.tag a.due a.at a.bytes.now c.if-bytes-value.false (λ e. c.if-byte_at-tag.true (c.byte_at.ensures.is ∙ e))

pub returns-then-pair_at-due : goal.returns-then-pair_at-due
returns-then-pair_at-due c =
    let a = c.args in
    wrong_length a.tag a.due a.at a.bytes.now c.if-bytes-value.false (sym c.byte_at.ensures.is ∙ c.if-byte_at-tag.false)
    (λ e. c.if-pair_at-due.true (c.pair_at.ensures.is ∙ e))

pub returns-then-bytes-value-2 : goal.returns-then-bytes-value-2
returns-then-bytes-value-2 c =
    let a = c.args in
    cut-value a.tag a.due a.at a.bytes.now c.if-bytes-value.false (sym c.byte_at.ensures.is ∙ c.if-byte_at-tag.false)
    (sym c.pair_at.ensures.is ∙ c.if-pair_at-due.false) c.if-bytes-value-2.true

pub returns : goal.returns
returns c =
    let a = c.args in
    whole-field a.tag a.due a.at a.bytes.now c.if-bytes-value.false (sym c.byte_at.ensures.is ∙ c.if-byte_at-tag.false)
    (sym c.pair_at.ensures.is ∙ c.if-pair_at-due.false) c.if-bytes-value-2.false
