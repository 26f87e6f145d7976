-- The starred bench words of the model hold of the public calls: one law over a table of cases.
use Rattle.std.specs.Prelude.{Ok}
use Prim.Native.Nat.{ℕ}
use mathlib.Core.Path.{◌≡◌, refl, ap, ◌∙◌}
use mathlib.Core.Bool.{Bool, true, ◌&&◌}
use mathlib.Core.List.{List, [], ◌∷◌}
use lib.Dec.{T, eqb, eqb→eq}
use store.Enc.{and_l, and_r}
use Rattle.model.specs.Board.{Board, board_with}
use Rattle.model.specs.Waits.{position_fits}
use Rattle.model.specs.Interpreter.{Run, interpret}
use Rattle.model.specs.GateMachine.{Gate, gate_run}
use Rattle.model.specs.Refusals.{verdict_number, run_verdict}
use Rattle.model.specs.Agreement.{interpreter_mark, gate_mark, machine_of, gate_from, interpreter_from}
use Rattle.model.specs.Starred.{Case, cases, start_of, has_all, passes, all_pass}
use Rattle.model.proofs.Verdicts.{accepted}
use Rattle.model.proofs.Starred.{starred}
use Rattle.interpreter.specs.declared.RunResult.{RunResult}
use Rattle.interpreter.specs.Calls.{Runs}
use Rattle.interpreter.proofs.Answers.{returned, left_in}
use Rattle.gate_machine.proofs.Answers.{carried-out}
use Rattle.agreement.specs.Starred.{Holds, AllHold, StarredCases}
use Rattle.agreement.proofs.TwoRuns.{same-verdict}

-- the bottom of every case is at 0
abbrev board_of : Case → Board
board_of c = board_with 0 c.waits

-- no case is turned down
abbrev taken : Case → Bool
taken c = eqb (verdict_number (run_verdict c.memory (board_of c) 0)) 0

abbrev all_taken : List Case → Bool
all_taken [] = true
all_taken (c ∷ cs) = taken c && all_taken cs

module _ (c : Case) (t : T (taken c)) (p : T (passes c)) {r : RunResult} {words : List ℕ} (h : Runs c.memory (board_of c) 0 (machine_of (start_of c)) 1 words r) where
  verdict : run_verdict c.memory (board_of c) 0 ≡ Ok tt
  verdict = accepted (run_verdict c.memory (board_of c) 0) (eqb→eq _ 0 t)

  abbrev ran : Run
  ran = interpret (board_of c) 1 (interpreter_from (start_of c) c.memory)

  abbrev clocked : ℕ → Gate
  clocked k = gate_run (board_of c) [] k (gate_from (start_of c) c.memory)

  -- the two halves of the model's test
  abbrev ran_well : Bool
  ran_well = has_all (interpreter_mark ran) ran.clocks c.expected

  abbrev clocked_well : Bool
  clocked_well = has_all (gate_mark (clocked ran.clocks)) ran.clocks c.expected

  holds : Holds c r words
  holds =
      rw (returned c.memory (board_of c) 0 (machine_of (start_of c)) 1 verdict h, left_in c.memory (board_of c) 0 (machine_of (start_of c)) 1 verdict h)
      (record {
        run = and_l ran_well clocked_well p;
        clocks = λ g words' d.
            let q = carried-out c.memory (board_of c) [] (start_of c) ran.clocks d (same-verdict c.memory (board_of c) (start_of c) (record { row = refl; begun = refl; left = refl }) ∙ verdict) in
            rw (ap gate_mark q) (and_r ran_well clocked_well p);
      })

all_hold : (cs : List Case) → T (all_taken cs) → T (all_pass cs) → AllHold cs
all_hold [] t p = tt
all_hold (c ∷ cs) t p = (
  λ r words h. holds c (and_l (taken c) (all_taken cs) t) (and_l (passes c) (all_pass cs) p) h,
  all_hold cs (and_r (taken c) (all_taken cs) t) (and_r (passes c) (all_pass cs) p),
)

pub starred-cases : StarredCases
unfolding position_fits run_verdict
starred-cases = all_hold cases tt starred
