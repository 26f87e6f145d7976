use Rattle.std.proofs.Common.{◌∙◌, refl}
use Rattle.model.proofs.Verdicts.{leaves, stops, passes}
use Rattle.image.specs.Format.{version_field}
use Rattle.image.proofs.Headers.{with_rule}
use Rattle.image_reader.proofs.Head.{version-checked}
use Rattle.image_reader.proofs.checks.version_verdict.Goals as goal

pub returns-in_err-header_verdict : goal.returns-in_err-header_verdict
returns-in_err-header_verdict c =
    with_rule version_field c.args.bytes.now (leaves _ c.from_residual.ensures.1 ∙ stops _ c.in_err-header_verdict.was) c.header_verdict.ensures refl

pub returns : goal.returns
returns c =
    let bytes = c.args.bytes.now in
    with_rule version_field bytes (passes _ c.in_ok-header_verdict.was) c.header_verdict.ensures
    (c.demand.ensures ∙ version-checked bytes _ _ c.is_version.ensures c.image_version.ensures)
