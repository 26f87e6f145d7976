use mathlib.Core.Path.{refl, ◌∙◌}
use native.Mathlib.Omega.{arith}
use Rattle.arithmetic.proofs.Bits.{bit_le}
use Rattle.model.specs.GateMachine.{gate_run}
use Rattle.model.proofs.Valid.{short, row-there}
use Rattle.step_table.proofs.Table.{step-there}
use Rattle.gate_machine.proofs.Turns.{ticked, stuck-ends, finished-le}
use Rattle.gate_machine.proofs.machine.run_clocks.Goals as goal

pub loop-init : goal.loop-init
unfolding gate_run
loop-init c = record { words = refl; run = rw c.each_latch-s.ensures }

pub bounds-table-s : goal.bounds-table-s
bounds-table-s c = row-there _ _ _ _ c.requires _ c.loop.invariant.run

pub tick-t-requires : goal.tick-t-requires
tick-t-requires c =
    (step-there c.steps-table.ensures refl (row-there _ _ _ _ c.requires _ c.loop.invariant.run) _, short _ _ _ _ c.requires)

pub overflow_add-finished : goal.overflow_add-finished
overflow_add-finished c =
    omega (arith, finished-le _ _ _ _ c.loop.invariant.run, bit_le c.tick-t.result.finished)

pub loop-preserved : goal.loop-preserved
loop-preserved c =
    let t = c.tick-t in
    record {
      words = t.auto.memory ∙ c.loop.invariant.words;
      run = ticked _ _ _ c.loop.invariant.run t.result.finished t.ensures.0;
    }

pub returns-then-t : goal.returns-then-t
returns-then-t c =
    let t = c.tick-t in
    stuck-ends _ _ _ c.loop.invariant.run c.loop-test.true t.result.finished t.ensures.0 t.ensures.1 c.if-t.true
