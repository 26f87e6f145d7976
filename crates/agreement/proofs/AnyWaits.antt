-- Two runs under different wait lists: the list changes nothing but the clocks.
use mathlib.Core.Path.{sym, ap, ◌∙◌}
use Rattle.model.specs.Waiting.{Work}
use Rattle.model.specs.Board.{board_with}
use Rattle.model.specs.Refusals.{run_verdict}
use Rattle.model.proofs.Waiting.{waits-only-wait}
use Rattle.model.proofs.Verdicts.{accepted}
use Rattle.std.specs.Prelude.{Ok}
use Rattle.interpreter.proofs.Answers.{returned, left_in}
use Rattle.agreement.specs.AnyWaits.{AnyWaits}

pub any_waits : AnyWaits
any_waits memory bottom waits waits' position position' start n r words c z r' words' d y =
    let board = board_with bottom waits in
    let board' = board_with bottom waits' in
    let v = accepted (run_verdict memory board position) (sym c.number ∙ z) in
    let u = accepted (run_verdict memory board' position') (sym d.number ∙ y) in
    let same = waits-only-wait bottom waits waits' start memory position position' n in
    rw (
      returned memory board position start n v c,
      left_in memory board position start n v c,
      returned memory board' position' start n u d,
      left_in memory board' position' start n u d,
    )
    (record {
      answer = ap (λ (w : Work). Ok w.ending) same;
      machine = ap (λ (w : Work). w.machine) same;
      ran = ap (λ (w : Work). w.ran) same;
      memory = ap (λ (w : Work). w.memory) same;
    })
