use Rattle.std.proofs.Common.{◌∙◌, refl}
use Rattle.model.proofs.Verdicts.{leaves, stops, passes}
use Rattle.image_reader.proofs.Head.{head_of}
use Rattle.image_reader.proofs.checks.head_verdict.Goals as goal

pub returns-in_err-version_verdict : goal.returns-in_err-version_verdict
returns-in_err-version_verdict c =
    leaves _ c.from_residual.ensures.1 ∙ stops _ c.in_err-version_verdict.was ∙ head_of c.args.bytes.now c.args.room c.version_verdict.ensures refl refl refl

pub returns-in_err-header_verdict : goal.returns-in_err-header_verdict
returns-in_err-header_verdict c =
    leaves _ c.from_residual-in_err-header_verdict.ensures.1 ∙ stops _ c.in_err-header_verdict.was ∙ passes _ c.in_ok-version_verdict.was
    ∙ head_of c.args.bytes.now c.args.room c.version_verdict.ensures c.header_verdict.ensures refl refl

pub returns-in_err-flags_verdict : goal.returns-in_err-flags_verdict
returns-in_err-flags_verdict c =
    leaves _ c.from_residual-in_err-flags_verdict.ensures.1 ∙ stops _ c.in_err-flags_verdict.was ∙ passes _ c.in_ok-header_verdict.was ∙ passes _ c.in_ok-version_verdict.was
    ∙ head_of c.args.bytes.now c.args.room c.version_verdict.ensures c.header_verdict.ensures c.flags_verdict.ensures refl

pub returns : goal.returns
returns c =
    passes _ c.in_ok-flags_verdict.was ∙ passes _ c.in_ok-header_verdict.was ∙ passes _ c.in_ok-version_verdict.was
    ∙ head_of c.args.bytes.now c.args.room c.version_verdict.ensures c.header_verdict.ensures c.flags_verdict.ensures c.count_verdict.ensures
