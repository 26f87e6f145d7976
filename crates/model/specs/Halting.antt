-- CR 5: the gate machine at a word that is no instruction. "The gate machine completes the read and enters a row 12, where it stays."
use Rattle.std.specs.Prelude.{ℕ, ◌+◌, ◌≤◌, ◌≡◌, ◌↔◌, false, List, []}
use Rattle.model.specs.declared.GateState.{GateState}
use Rattle.model.specs.declared.Ending.TheVariants.{NoInstruction}
use Rattle.model.specs.Waits.{wait_at, next_position}
use Rattle.model.specs.Board.{Board}
use Rattle.model.specs.Interpreter.{instruction, Run, interpret}
use Rattle.model.specs.GateMachine.{Gate, gate_run}
use Rattle.model.specs.Agreement.{Between, machine_of, gate_from, interpreter_from}

-- the clocks until then: those of the run r that stopped before the word, row 0's, and the read's with its wait
abbrev pub halted_after : List ℕ → Run → ℕ
halted_after waits r = r.clocks + (2 + wait_at waits r.position)

-- the machine that has halted before the word: it is latched, its read is done and has used up its entry, and registers, flags, memory and
-- count are as r left them
pub record Halted (waits : List ℕ) (r : Run) (g : Gate) : Type 0 where
  pub word : g.state.instruction ≡ instruction r.memory r.machine
  pub position : g.state.position ≡ next_position waits r.position
  pub begun : g.state.begun ≡ false
  pub machine : machine_of g.state ≡ r.machine
  pub memory : g.memory ≡ r.memory
  pub finished : g.finished ≡ r.ran

-- k clocks came to g: it is in row 12 exactly from then on, and has halted so
pub record Halts (waits : List ℕ) (r : Run) (k : ℕ) (g : Gate) : Type 0 where
  pub row : g.state.row ≡ 12 ↔ (halted_after waits r ≤ k)
  pub halted : halted_after waits r ≤ k → Halted waits r g

-- whatever the program, the state and the board, wherever the run ends "no instruction"; without resets
abbrev pub Halting : Type 0
Halting =
    (board : Board) (s : GateState) (memory : List ℕ) (n k : ℕ) → Between s →
    let r = interpret board n (interpreter_from s memory) in
    r.ending ≡ NoInstruction → Halts board.waits r k (gate_run board [] k (gate_from s memory))
