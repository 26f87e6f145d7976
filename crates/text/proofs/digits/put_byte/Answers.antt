use mathlib.Core.Path.{sym}
use lib.Seq.{set_out}
use Rattle.text.proofs.digits.put_byte.Goals as goal

pub returns-else-at-out : goal.returns-else-at-out
returns-else-at-out c = sym (set_out _ _ _ c.if-at-out.false)
