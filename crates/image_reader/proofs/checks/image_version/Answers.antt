use mathlib.Core.Path.{sym, ◌∙◌}
use Rattle.image.proofs.Places.{one_byte}
use Rattle.image_reader.proofs.checks.image_version.Goals as goal

pub returns : goal.returns
returns c = c.byte_at.ensures.is ∙ sym (one_byte c.args.bytes.now 3)
