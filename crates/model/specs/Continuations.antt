-- Runs that go on from where another left off. Document 01, "Clocks", with CR 7.
use Rattle.std.specs.Prelude.{ℕ, ◌+◌, ◌≡◌, cond, List}
use Rattle.model.specs.declared.Machine.{Machine}
use Rattle.model.specs.declared.GateState.{GateState}
use Rattle.model.specs.Board.{Board}
use Rattle.model.specs.Resets.{resets_below, resets_from, resets_then}
use Rattle.model.specs.Interpreter.{goes_on, Run, begin, interpret}
use Rattle.model.specs.GateMachine.{Gate, gate, gate_run}
use Rattle.model.specs.Agreement.{gate_from}

-- what the second of two gate runs leaves, with the counts of both
abbrev pub gate_sum : (first second : Gate) → Gate
gate_sum first second = gate second.state second.memory (first.finished + second.finished)

-- a gate run of i + k clocks is one of i clocks and then one of k, from where the first left off, with the resets that are left
abbrev pub Continuation : Type 0
Continuation =
    (board : Board) (resets : List ℕ) (s : GateState) (memory : List ℕ) (i k : ℕ) →
    let first = gate_run board resets i (gate_from s memory) in
    gate_run board resets (i + k) (gate_from s memory)
    ≡ gate_sum first (gate_run board (resets_from i resets) k (gate_from first.state first.memory))

-- two gate runs with reset lists of their own, the second from where the first left off, are one run
abbrev pub OneRun : Type 0
OneRun =
    (board : Board) (resets later : List ℕ) (s : GateState) (memory : List ℕ) (i k : ℕ) →
    let first = gate_run board resets i (gate_from s memory) in
    gate_sum first (gate_run board later k (gate_from first.state first.memory))
    ≡ gate_run board (resets_then i resets later) (i + k) (gate_from s memory)

-- resets at or past the number of clocks have no effect
abbrev pub LateResets : Type 0
LateResets = (board : Board) (resets : List ℕ) (k : ℕ) (g : Gate) → gate_run board resets k g ≡ gate_run board (resets_below k resets) k g

-- what the second of two runs leaves, with the counts and the clocks of both; a first one that stopped decides the ending
abbrev pub run_sum : (first second : Run) → Run
run_sum first second =
    record {
      machine = second.machine;
      memory = second.memory;
      position = second.position;
      ran = first.ran + second.ran;
      clocks = first.clocks + second.clocks;
      ending = cond (goes_on first.ending) second.ending first.ending;
    }

-- a run of i + n instructions is one of i and then one of n from where it left off, its list position too; a first one that stopped is
-- stopped again before the same instruction
abbrev pub RunContinuation : Type 0
RunContinuation =
    (board : Board) (m : Machine) (memory : List ℕ) (position i n : ℕ) →
    let first = interpret board i (begin m memory position) in
    interpret board (i + n) (begin m memory position)
    ≡ run_sum first (interpret board n (begin first.machine first.memory first.position))
