use borrow.Author.Tests.{ne_eqb}
use Rattle.traverse.proofs.ended.Goals as goal

pub returns-then-version-eq1 : goal.returns-then-version-eq1
returns-then-version-eq1 c = rw c.if-version-eq1.true

pub returns : goal.returns
returns c = rw (ne_eqb c.args.version 1 c.if-version-eq1.false)
