use Rattle.std.proofs.Common.{◌∙◌}
use Rattle.arithmetic.proofs.word.word_unit.Goals as goal

pub returns : goal.returns
returns c = c.answer.ensures ∙ c.by_operation-out.ensures
