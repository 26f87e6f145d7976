-- What the unit on words computes by operation, before N and Z. Document 01, "Machine and instruction word", C, V, N and Z.
use Rattle.arithmetic.specs.declared.AluOut.{AluOut}
use Rattle.arithmetic.specs.declared.word.Computed.{Computed}
use Rattle.arithmetic.specs.Alu.{answer}

-- the answer that it comes to
abbrev pub completed : Computed → AluOut
completed c = answer 31 c.result c.carry c.overflow
