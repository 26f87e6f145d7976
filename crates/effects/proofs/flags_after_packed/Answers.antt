use Rattle.model.proofs.Packed.{flags-set}
use Rattle.effects.proofs.flags_after_packed.Goals as goal

pub returns : goal.returns
returns c = flags-set c.args.word c.args.flags c.args.out c.packed-answer.ensures
