use mathlib.Core.Path.{◌≡◌, sym}
use native.Mathlib.Omega.{arith}
use Rattle.model.proofs.Stores.{sets-out}
use Rattle.text.specs.Text.{digits}
use Rattle.text.proofs.Figures.{digits-turn}
use Rattle.text.proofs.digits.put_digits.Goals as goal

pub loop-place-preserved : goal.loop-place-preserved
loop-place-preserved c =
    let at = c.loop-place in
    let a = c.args in
    digits-turn a.base at.out a.at at.place at.rest (omega arith) c.digit_of.ensures c.put_byte.ensures at.invariant

pub returns-after-loop-place : goal.returns-after-loop-place
unfolding digits
returns-after-loop-place c =
    let at = c.loop-place in
    let none : at.place ≡ 0 = omega arith in
    rw none at at.invariant

pub returns-else-at-out : goal.returns-else-at-out
returns-else-at-out c =
    let a = c.args in
    sym (sets-out a.out.now a.at (digits a.base a.count a.n) c.if-at-out.false)
