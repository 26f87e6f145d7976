-- Demand 3 for the two public calls, from the model's agreement and the calls' contracts.
use Rattle.std.specs.Prelude.{Ok, Result, refl}
use Rattle.model.specs.declared.Ending.{Ending}
use Rattle.model.specs.declared.Refusal.{Refusal}
use Prim.Native.Nat.{ℕ}
use mathlib.Core.Path.{◌≡◌, sym, ◌∙◌}
use mathlib.Core.List.{List}
use Rattle.model.specs.declared.GateState.{GateState}
use Rattle.model.specs.Board.{Board}
use Rattle.model.specs.Interpreter.{Run, interpret}
use Rattle.model.specs.GateMachine.{Gate, gate}
use Rattle.model.specs.Refusals.{run_verdict}
use Rattle.model.specs.Agreement.{Agrees, machine_of, gate_from, interpreter_from}
use Rattle.model.proofs.Agreed.{agreement}
use Rattle.model.proofs.AfterReset.{without_reset}
use Rattle.model.proofs.Verdicts.{accepted}
use Rattle.model.proofs.Valid.{start-verdict}
use Rattle.interpreter.specs.declared.RunResult.{RunResult}
use Rattle.interpreter.specs.Calls.{Runs}
use Rattle.interpreter.proofs.Answers.{returned, left_in}
use Rattle.agreement.specs.TwoRuns.{InStep, TwoRuns, SameVerdict}
use Rattle.agreement.proofs.Series.{series-as-one}

-- an answer tells one ending
told : (r : Result Ending Refusal) (a b : Ending) → r ≡ Ok a → r ≡ Ok b → a ≡ b
told r a b p q = cc

pub same-verdict : SameVerdict
same-verdict memory board start h = start-verdict memory board start (record { row = h.row; begun = h.begun }) h.left

-- what the model's runs do, said of what the interpreter's call returns and of a gate
pub said : (memory : List ℕ) (board : Board) (s : GateState) (n k : ℕ) (g : Gate)
    → Agrees n k (interpret board n (interpreter_from s memory)) g
    → run_verdict memory board s.position ≡ Ok tt
    → (r : RunResult) (words : List ℕ) → Runs memory board s.position (machine_of s) n words r
    → InStep n k r words g.finished g.state g.memory
said memory board s n k g a v r words c =
    let i : Run = interpret board n (interpreter_from s memory) in
    rw (returned memory board s.position (machine_of s) n v c, left_in memory board s.position (machine_of s) n v c)
    (record {
      marks = a.marks;
      all = λ e. a.all (told (Ok i.ending) i.ending Ending.Finished refl e);
      outside = λ e. a.outside (told (Ok i.ending) i.ending Ending.Outside refl e);
      halted = λ e. a.halted (told (Ok i.ending) i.ending Ending.NoInstruction refl e);
    })

pub two_runs : TwoRuns
two_runs memory board start n k h r words c z resets none f s words' w =
    let v : run_verdict memory board start.position ≡ Ok tt = accepted (run_verdict memory board start.position) (sym c.number ∙ z) in
    let q = series-as-one board memory start resets k f s words' w ∙ without_reset board resets k (gate_from start memory) none in
    said memory board start n k (gate s words' f) (rw q (agreement board start memory n k (record { row = h.row; begun = h.begun }))) v r words c
