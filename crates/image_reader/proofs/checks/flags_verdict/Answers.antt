use Rattle.std.proofs.Common.{ℕ, ◌∙◌, ◌&&◌, List, leb, drop, refl}
use Rattle.model.proofs.Verdicts.{leaves, stops, passes}
use Rattle.image.specs.Format.{flags_field}
use Rattle.image.proofs.Headers.{with_rule}
use Rattle.image_reader.proofs.Head.{flag_at, flags-checked}
use Rattle.image_reader.proofs.checks.flags_verdict.Goals as goal

pub returns-in_err-header_verdict : goal.returns-in_err-header_verdict
returns-in_err-header_verdict c =
    with_rule flags_field (drop 39 c.args.bytes.now) (leaves _ c.from_residual.ensures.1 ∙ stops _ c.in_err-header_verdict.was) c.header_verdict.ensures refl

pub returns : goal.returns
returns c =
    let bytes : List ℕ = c.args.bytes.now in
    let e₀ = flag_at bytes 0 c.byte_at-c.ensures.is in
    let e₁ = flag_at bytes 1 c.byte_at-v.ensures.is in
    let e₂ = flag_at bytes 2 c.byte_at-n.ensures.is in
    let e₃ = flag_at bytes 3 c.byte_at-z.ensures.is in
    with_rule flags_field (drop 39 bytes) (passes _ c.in_ok-header_verdict.was) c.header_verdict.ensures
    (c.demand.ensures ∙ flags-checked bytes _ (λ i. leb (e₀ i) 1 && leb (e₁ i) 1 && leb (e₂ i) 1 && leb (e₃ i) 1))
