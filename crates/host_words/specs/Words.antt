-- The words that a call leaves of a machine and of a gate state. Document 01, "Machine and instruction word" and "Clocks".
use Rattle.std.specs.Prelude.{ℕ, cond, List, ◌++◌, eqb, length}
use Rattle.model.specs.declared.Machine.{Machine}
use Rattle.model.specs.declared.GateState.{GateState}
use Rattle.model.specs.Packed.{flag_numbers, latch_words}
use Rattle.model.specs.Agreement.{machine_of}
use Rattle.host_reading.specs.Layout.{registers_in}

unfoldable pub machine_words : Machine → List ℕ
machine_words m = registers_in m.regs ++ flag_numbers m.flags

-- the machine's words, then the nine of row, latches, list position and access
abbrev pub state_words : GateState → List ℕ
state_words s = machine_words (machine_of s) ++ latch_words s

-- so many numbers, laid over a lent slice of their length; any other slice is left as it was
abbrev pub laid : (size : ℕ) → (numbers lent : List ℕ) → List ℕ
laid size numbers lent = cond (eqb (length lent) size) numbers lent
