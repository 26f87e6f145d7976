use Rattle.std.proofs.Common.{arith}
use Rattle.model.proofs.Conditions.{operation-lt}
use Rattle.effects.proofs.storing.stores.Goals as goal

-- an operation is below 16
pub returns-in_default : goal.returns-in_default
returns-in_default c = absurd (omega (arith, operation-lt c.args.word))
