-- The starred bench words hold of the two public calls, through their contracts. Document 01, "Bench words".
use Rattle.std.specs.Prelude.{ℕ, List, [], ◌∷◌, T}
use Rattle.model.specs.Board.{board_with}
use Rattle.model.specs.GateMachine.{gate}
use Rattle.model.specs.Agreement.{gate_mark, machine_of}
use Rattle.model.specs.Starred.{Case, cases, start_of, has_all}
use Rattle.interpreter.specs.declared.RunResult.{RunResult}
use Rattle.interpreter.specs.Calls.{Runs}
use Rattle.gate_machine.specs.declared.GateResult.{GateResult}
use Rattle.gate_machine.specs.Calls.{GateRuns, gate_finished}
use Rattle.agreement.specs.TwoRuns.{run_mark}

-- a run of one instruction, and a gate run of as many clocks as it returns, leave what the case expects
pub record Holds (c : Case) (r : RunResult) (words : List ℕ) : Type 0 where
  pub run : T (has_all (run_mark r words) r.clocks c.expected)
  pub clocks : (g : GateResult) (words' : List ℕ) → GateRuns c.memory (board_with 0 c.waits) [] (start_of c) r.clocks words' g
      → T (has_all (gate_mark (gate g.state words' (gate_finished g.outcome))) r.clocks c.expected)

-- whatever the calls return for each case
abbrev pub AllHold : List Case → Type 0
AllHold [] = Unit
AllHold (c ∷ cs) =
    ((r : RunResult) (words : List ℕ) → Runs c.memory (board_with 0 c.waits) 0 (machine_of (start_of c)) 1 words r → Holds c r words) × AllHold cs

abbrev pub StarredCases : Type 0
StarredCases = AllHold cases
