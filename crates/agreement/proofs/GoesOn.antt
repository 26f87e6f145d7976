-- Two runs of the interpreter, the second from where the first left off, are one.
use Rattle.model.specs.declared.Refusal.{Refusal}
use Rattle.std.specs.Prelude.{Ok, Result}
use Prim.Native.Nat.{ℕ, ◌+◌}
use mathlib.Core.Path.{◌≡◌, refl, sym, ap, ◌∙◌}
use mathlib.Core.Bool.{cond}
use Rattle.model.specs.declared.Machine.{Machine}
use Rattle.model.specs.declared.Ending.{Ending}
use Rattle.model.specs.declared.Ending.TheVariants.{Finished, Outside, NoInstruction}
use Rattle.model.specs.Interpreter.{goes_on, Run, begin, interpret}
use Rattle.model.specs.Refusals.{verdict_number, run_verdict}
use Rattle.model.specs.Continuations.{run_sum}
use Rattle.model.proofs.RunParts.{run-continuation}
use Rattle.model.proofs.Valid.{run-accepts-next}
use Rattle.model.proofs.Verdicts.{accepted}
use Rattle.interpreter.specs.Calls.{run_result}
use Rattle.interpreter.proofs.Answers.{returned, left_in}
use Rattle.agreement.specs.GoesOn.{answer_sum, result_sum, RunGoesOn}

-- the ending of two runs of the model, as an answer
sum-answer : (a b : Ending) → Ok (cond (goes_on a) b a) ≡ answer_sum (Ok a) (Ok b)
sum-answer Finished b = refl
sum-answer Outside b = refl
sum-answer NoInstruction b = refl

sum-result : (p q : ℕ) (m n : Machine) (i j : Run) → run_result (Ok tt) p m (run_sum i j) ≡ result_sum (run_result (Ok tt) p m i) (run_result (Ok tt) q n j)
sum-result p q m n i j =
    ap
    (λ (a : Result Ending Refusal). record { answer = a; machine = j.machine; ran = i.ran + j.ran; clocks = i.clocks + j.clocks; position = j.position })
    (sum-answer i.ending j.ending)

pub run-goes-on : RunGoesOn
run-goes-on memory board position start n m first words c z second words' d whole last w =
    let v : run_verdict memory board position ≡ Ok tt = accepted (run_verdict memory board position) (sym c.number ∙ z) in
    let i : Run = interpret board n (begin start memory position) in
    let j : Run = interpret board m (begin i.machine i.memory i.position) in
    let p = returned memory board position start n v c in
    let next = run-accepts-next memory board position start n v in
    let d' = rw (p, left_in memory board position start n v c) at d in
    let e = run-continuation board start memory position n m in
    let sums : (whole ≡ result_sum first second) × (last ≡ words') =
    rw (p, returned i.memory board i.position i.machine m next d', left_in i.memory board i.position i.machine m next d') (
      returned memory board position start (n + m) v w ∙ ap (run_result (Ok tt) position start) e ∙ sum-result position i.position start i.machine i j,
      left_in memory board position start (n + m) v w ∙ ap (λ (r : Run). r.memory) e,
    ) in
    (d'.number ∙ ap verdict_number next, sums.0, sums.1)
