use mathlib.Core.Path.{sym, ◌∙◌}
use Rattle.step.proofs.Keeping.{keeps-marked}
use Rattle.step.proofs.keep.keep.Goals as goal

pub returns-then-is_marked : goal.returns-then-is_marked
returns-then-is_marked c = keeps-marked _ _ _ _ _ _ _ c.if-done-map.false (sym c.is_marked.ensures ∙ c.if-is_marked.true)
