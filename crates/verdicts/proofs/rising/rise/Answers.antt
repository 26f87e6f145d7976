use Rattle.std.proofs.Common.{rules}
use Rattle.std.proofs.lemmas.Fn.{always_returns_same}
use lib.Dec.{ltb}
use Rattle.verdicts.proofs.Ascents.{rise-as-neighbours}
use Rattle.verdicts.proofs.rising.rise.Goals as goal

pub returns : goal.returns
returns c = rise-as-neighbours c.args.resets.now _ (c.is_sorted_by.ensures.cases ltb (always_returns_same _ _ _ (λ a r q k. search rules)))
