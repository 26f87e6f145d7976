use mathlib.Core.Path.{◌≡◌}
use mathlib.Core.List.{[]}
use lib.ListN.{length}
use Rattle.model.specs.Board.{board_with}
use Rattle.model.specs.GateMachine.{gate, gate_run}
use Rattle.model.specs.Agreement.{gate_from}
use Rattle.gate_rows.specs.Work.{state_of}
use Rattle.gate_machine.proofs.machine.run_clocks.Given as goal

abbrev pub invariant-loop : goal.invariant-loop
invariant-loop l = record {
  words : length l.memory ≡ length l.fn.memory;
  run : gate (state_of l.regs l.s) l.memory l.finished ≡ gate_run (board_with l.bottom l.waits) [] l.counter (gate_from (state_of l.fn.regs l.fn.start) l.fn.memory);
}
