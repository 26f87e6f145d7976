use Rattle.model.specs.Board.{board_with}
use Rattle.gate_rows.specs.Work.{state_of}
use Rattle.gate_machine.proofs.Segments.{At}
use Rattle.gate_machine.proofs.resets.run_resets.Given as goal

abbrev pub invariant-loop-j : goal.invariant-loop-j
invariant-loop-j l = At (board_with l.bottom l.waits) l.resets l.fn.start l.fn.memory l.clocks (state_of l.regs l.s) l.memory l.finished l.done l.j
