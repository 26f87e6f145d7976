use borrow.Author.Tests.{eq-eqb, ne_eqb}
use Rattle.traverse.proofs.walk.begin.Goals as goal

pub returns-then-version-eq1 : goal.returns-then-version-eq1
returns-then-version-eq1 c =
    let t = eq-eqb _ 1 c.if-version-eq1.true in
    (rw t c.forget.ensures, rw t)

pub returns : goal.returns
returns c = let t = ne_eqb _ 1 c.if-version-eq1.false in (rw t, rw t)
