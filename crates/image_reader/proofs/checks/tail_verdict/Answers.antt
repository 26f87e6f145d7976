use Rattle.std.proofs.Common.{ℕ, ◌+◌, ◌-◌, ◌*◌, ◌<◌, ◌≡◌, arith, refl, sym, ap, ◌∙◌}
use Rattle.model.proofs.Verdicts.{leaves, stops, passes}
use Rattle.image.specs.Format.{words_per_field, fields_for, span_of}
use Rattle.image.proofs.Memories.{span_step}
use Rattle.image_reader.specs.Passes.{tail_verdict}
use Rattle.image_reader.proofs.Turns.{tail_refused, tail_goes, tail_end}
use Rattle.image_reader.proofs.checks.tail_verdict.Goals as goal

pub header_verdict-requires : goal.header_verdict-requires
unfolding fields_for
header_verdict-requires c = omega arith

pub returns-in_err-header_verdict : goal.returns-in_err-header_verdict
returns-in_err-header_verdict c =
    let a = c.args in
    let l = c.loop-field in
    leaves _ c.from_residual.ensures.1
    ∙ tail_refused (a.words - words_per_field * l.field) l.at _ a.bytes.now (omega arith) c.words_in_field-count.ensures
    c.in_err-header_verdict.was c.header_verdict.ensures l.invariant.1

pub overflow_add-at : goal.overflow_add-at
unfolding fields_for
overflow_add-at c = omega arith

pub overflow_add-at-in-loop-field : goal.overflow_add-at-in-loop-field
unfolding fields_for
overflow_add-at-in-loop-field c = omega arith

pub loop-field-preserved : goal.loop-field-preserved
loop-field-preserved c =
    let a = c.args in
    let l = c.loop-field in
    let left : ℕ = a.words - words_per_field * l.field in
    let count : ℕ = c.words_in_field-count.result in
    let e = c.words_in_field-count.ensures in
    let more : 0 < left = omega arith in
    let less : a.words - words_per_field * (l.field + 1) ≡ left - count = omega arith in (
      ap (λ (n : ℕ). l.at + 3 + 4 * count + span_of n) less ∙ sym (span_step l.at left count more e) ∙ l.invariant.0,
      ap (λ (n : ℕ). tail_verdict n (l.at + 3 + 4 * count) a.bytes.now) less
          ∙ tail_goes left l.at count a.bytes.now more e c.in_ok-header_verdict.was c.header_verdict.ensures l.invariant.1,
    )

pub header_verdict-requires-2 : goal.header_verdict-requires-2
unfolding fields_for
header_verdict-requires-2 c = omega arith

pub returns-in_err-header_verdict-2 : goal.returns-in_err-header_verdict-2
returns-in_err-header_verdict-2 c =
    let a = c.args in
    let l = c.loop-field in
    let left : ℕ = a.words - words_per_field * l.field in
    let none : left ≡ 0 = omega arith in
    tail_end left l.at a.bytes.now none (leaves _ c.from_residual-in_err-header_verdict-2.ensures.1 ∙ stops _ c.in_err-header_verdict-2.was)
    c.header_verdict-2.ensures refl l.invariant.1

pub overflow_add-at-2 : goal.overflow_add-at-2
unfolding fields_for
overflow_add-at-2 c = omega arith

pub returns : goal.returns
returns c =
    let a = c.args in
    let l = c.loop-field in
    let left : ℕ = a.words - words_per_field * l.field in
    let none : left ≡ 0 = omega arith in
    tail_end left l.at a.bytes.now none (passes _ c.in_ok-header_verdict-2.was) c.header_verdict-2.ensures c.demand.ensures l.invariant.1
