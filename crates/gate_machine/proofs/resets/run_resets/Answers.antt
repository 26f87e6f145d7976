use native.Mathlib.Omega.{arith}
use Rattle.gate_machine.proofs.Segments.{begins, taken, bounds, few, reset-turn, ends, is-listed}
use Rattle.gate_machine.proofs.resets.run_resets.Goals.{else-loop-j-test, then-loop-j-test+then-clocks-until, then-loop-j-test+else-clocks-until+else-j-j-end}
use Rattle.gate_machine.proofs.resets.run_resets.Goals as goal

pub loop-j-init : goal.loop-j-init
loop-j-init c = rw c.latches_of-s.ensures (begins _ _ _ _ c.requires _)

pub run_clocks-e-requires : goal.run_clocks-e-requires
run_clocks-e-requires c = taken _ _ _ _ c.requires c.loop-j.invariant

pub overflow_add-finished : goal.overflow_add-finished
overflow_add-finished c =
    omega (arith, few _ _ _ _ c.requires c.loop-j.invariant _ c.run_clocks-e.ensures, bounds _ _ _ _ c.requires c.loop-j.invariant c.next_reset-until.ensures, c.ranges.clocks)

pub loop-j-preserved : goal.loop-j-preserved
loop-j-preserved c =
    reset-turn _ _ _ _ c.requires c.loop-j.invariant c.next_reset-until.ensures c.run_clocks-e.ensures c.if-clocks-until.false
    c.run_clocks-e.auto.memory (c.reset-s.ensures c.run_clocks-e.new.regs)

-- the loop ends by its break alone: past the last reset, the next one is the run's end
pub returns : goal.returns
returns c = elim c.loop-j-test.branch [
  | else-loop-j-test w ↦ absurd (omega arith)
  | then-loop-j-test+then-clocks-until w ↦
      rw (c.state_of.ensures, w.memory-is, w.regs-is, w.s-is, w.finished-is)
      (ends _ _ _ _ c.requires c.loop-j.invariant w.next_reset-until.ensures w.run_clocks-e.ensures w.if-clocks-until.true)
  | then-loop-j-test+else-clocks-until+else-j-j-end w ↦
      absurd (omega (arith, is-listed c.args.resets.now c.loop-j.j c.args.clocks w.next_reset-until.ensures w.if-clocks-until.false))
]
