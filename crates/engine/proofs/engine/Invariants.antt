use Rattle.model.specs.Board.{board_with}
use Rattle.model.specs.Packed.{packed_machine}
use Rattle.engine.proofs.Turns.{At}
use Rattle.engine.proofs.engine.Given as goal

abbrev pub invariant-loop-i : goal.invariant-loop-i
invariant-loop-i l = At l.initial.memory (board_with l.bottom l.waits) l.initial.spent.position l.initial.journal l.initial.map l.noted (packed_machine l.initial.regs l.initial.flags) l.count l.memory l.journal l.map l.regs l.flags l.spent.position l.spent.clocks l.pairs l.i
