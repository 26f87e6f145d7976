use native.Mathlib.Omega.{arith}
use borrow.Author.Tests.{lt-ltb, le-ltb}
use Rattle.model.specs.GateMachine.{remaining, position_now}
use Rattle.model.specs.Refusals.{most_waits}
use Rattle.model.proofs.Waits.{next_low}
use Rattle.gate_machine.specs.Clock.{grant_of}
use Rattle.gate_machine.proofs.access.granted.Goals as goal

pub returns-then-not-access : goal.returns-then-not-access
unfolding grant_of
returns-then-not-access c = rw (c.if-not-access.true) c.untouched.ensures

pub returns-then-words-s : goal.returns-then-words-s
unfolding grant_of
returns-then-words-s c =
    let access = c.if-not-access.false in
    let absent = le-ltb _ _ c.if-words-s.true in
    rw (access, absent) c.untouched-then-words-s.ensures

pub returns-then-s : goal.returns-then-s
unfolding grant_of remaining position_now
returns-then-s c =
    let access = c.if-not-access.false in
    let there = lt-ltb _ _ c.if-words-s.false in
    rw (access, there, c.if-s.true, ← c.saturating_sub.ensures) c.acknowledged.ensures

-- a position of an accepted list has 32 bits
pub overflow_cast-next_position : goal.overflow_cast-next_position
overflow_cast-next_position c = omega (arith, c.next_position.ensures, next_low c.args.waits.now c.args.s.position most_waits c.requires)

pub returns : goal.returns
unfolding grant_of remaining position_now
returns c =
    let access = c.if-not-access.false in
    let there = lt-ltb _ _ c.if-words-s.false in
    rw (access, there, c.if-s.false, ← c.next_position.ensures, ← c.wait_at.ensures)
    c.acknowledged-2.ensures
