use Rattle.std.proofs.Common.{refl, ◌∙◌, arith}
use Rattle.arithmetic.proofs.Sums.{same_answer, sum_is}
use Rattle.arithmetic.proofs.WordSums.{wrapped_sum}
use Rattle.arithmetic.proofs.word.sum.Goals as goal

pub returns : goal.returns
returns c =
    let r = c.args in
    same_answer 31 refl refl c.overflow_of.ensures
    ∙ sum_is 31 r.x r.y _ r.c _ (omega arith) (omega arith) (omega arith)
    (wrapped_sum r.x r.y _ _ (omega arith) (omega arith) r.c refl refl)
