use mathlib.Core.Path.{◌∙◌}
use borrow.Author.Tests.{not-true, not-false}
use Rattle.model.specs.Board.{board_with}
use Rattle.step_table.proofs.Table.{is-access, is-finish, is-stay}
use Rattle.gate_machine.proofs.Turns.{waits-on, works-on}
use Rattle.gate_machine.proofs.machine.tick.Goals as goal

pub returns-then-not-grant : goal.returns-then-not-grant
returns-then-not-grant c =
    let args = c.args in
    waits-on (board_with args.bottom args.waits.now) args.s args.regs.now args.memory.now args.step c.requires.0
    (rw (c.eq.ensures ∙ is-access _) at c.granted-grant.ensures) (not-true _ c.if-not-grant.true)

pub returns : goal.returns
returns c =
    let args = c.args in
    rw (c.eq-2.ensures ∙ is-finish _, c.eq-3.ensures ∙ is-stay _)
    (works-on (board_with args.bottom args.waits.now) args.s args.regs.now args.memory.now args.step c.requires.0
    (rw (c.eq.ensures ∙ is-access _) at c.granted-grant.ensures) (not-false _ c.if-not-grant.false) c.work-u.ensures)
