-- The file run beside the run: the wait list changes nothing but the clocks, and a journal that is full stops before an instruction that runs.
use Rattle.model.specs.declared.Refusal.{Refusal}
use Rattle.interpreter.specs.declared.FileEnding.{FileEnding}
use Rattle.std.specs.Prelude.{Ok, Err, Result}
use Prim.Native.Nat.{ℕ, zero, suc, ◌≤◌, ◌<◌}
use mathlib.Core.Path.{◌≡◌, refl, sym, ap, ◌∙◌}
use mathlib.Core.Bool.{Bool, true, false, true≢false}
use mathlib.Core.List.{List, []}
use native.Mathlib.Omega.{arith}
use lib.ListN.{length}
use Rattle.model.specs.declared.Machine.{Machine}
use Rattle.model.specs.declared.Ending.{Ending}
use Rattle.model.specs.declared.Ending.TheVariants.{Finished, Outside, NoInstruction}
use Rattle.model.specs.Board.{Board}
use Rattle.model.specs.Interpreter.{Run, begin, execute, stop, advance, interpret}
use Rattle.model.specs.Journal.{Pair, stored_by, noting, Noted, run_one, run_noted, fresh, room_in}
use Rattle.model.specs.Waiting.{Work, work_of}
use Rattle.model.specs.Refusals.{run_verdict, file_verdict}
use Rattle.model.proofs.Bounds.{ran_le}
use Rattle.model.proofs.Runs.{one_more}
use Rattle.model.proofs.Journals.{by-room, not-full-run, room-kept}
use Rattle.model.proofs.Waiting.{waits-only-wait}
use Rattle.model.proofs.Verdicts.{accepted}
use Rattle.interpreter.specs.declared.FileResult.{FileResult}
use Rattle.interpreter.specs.Calls.{run_result, file_answer_of, file_result, memory_end, file_number, file_board, whole_file}
use Rattle.interpreter.proofs.Answers.{returned, left_in}
use Rattle.interpreter.proofs.FileAnswers.{file-returned, file-left}
use Rattle.agreement.specs.FileAsRun.{is_full, AsRun, FileAsRun, FullAsRun}

-- the answer tells whether the journal is full
told : (f : Bool) (e : Ending) → is_full (Ok (file_answer_of f e)) ≡ f
told true e = refl
told false Finished = refl
told false Outside = refl
told false NoInstruction = refl

-- the claim for a run i and a file run k, not full, that did the same work
module _ (memory : List ℕ) (position : ℕ) (start : Machine) (i : Run) (k : Noted) (none : k.full ≡ false) (same : work_of k.run ≡ work_of i) where
  claim : AsRun memory start i.memory (run_result (Ok tt) position start i) (memory_end memory k) (file_result (Ok tt) start k)
  claim = go i.ending refl (ap (λ (w : Work). w.ending) same)
    where
      go : (e : Ending) → i.ending ≡ e → k.run.ending ≡ i.ending
          → AsRun memory start i.memory (run_result (Ok tt) position start i) (memory_end memory k) (file_result (Ok tt) start k)
      go Finished e d =
          rw (none, d, e)
          (record {
            answer = refl;
            ran = ap (λ (w : Work). w.ran) same;
            finished = λ _. (ap (λ (w : Work). w.machine) same, ap (λ (w : Work). w.memory) same);
            outside = λ q. (cc, cc);
            halted = λ q. (cc, cc);
          })
      go Outside e d =
          rw (none, d, e)
          (record {
            answer = refl;
            ran = ap (λ (w : Work). w.ran) same;
            finished = λ q. (cc, cc);
            outside = λ _. (refl, refl);
            halted = λ _. (refl, refl);
          })
      go NoInstruction e d =
          rw (none, d, e)
          (record {
            answer = refl;
            ran = ap (λ (w : Work). w.ran) same;
            finished = λ q. (cc, cc);
            outside = λ _. (refl, refl);
            halted = λ _. (refl, refl);
          })

pub file-as-run : FileAsRun
file-as-run memory board position journal start n r words c z f words' journal' d y room =
    let bottom = board.bottom in
    let v = accepted (run_verdict memory board position) (sym c.number ∙ z) in
    let u = accepted (file_verdict memory bottom) (sym d.number ∙ y) in
    let k = whole_file memory bottom journal start n in
    let q = file-returned memory bottom journal start n u d in
    let none : k.full ≡ false = sym (told k.full k.run.ending) ∙ ap (λ (x : FileResult). is_full x.answer) (sym q) ∙ room in
    let plain : k.run ≡ interpret (file_board bottom) n (begin start memory 0) =
    not-full-run (file_board bottom) (room_in journal) n (begin start memory 0) [] none in
    rw (returned memory board position start n v c, left_in memory board position start n v c, q, file-left memory bottom journal start n u d)
    (claim memory position start (interpret board n (begin start memory position)) k none
    (ap work_of plain ∙ waits-only-wait bottom [] board.waits start memory 0 position n))

-- ---- full

module _ (board : Board) where
  ran_on : (i : Run) → i.ran ≤ (advance board i).ran
  unfolding execute stop
  ran_on i = one_more board (λ (x : Run). i.ran ≤ x.ran) i (λ _ _. omega arith) (λ _ _. omega arith) (λ _. omega arith)

  module _ (room : ℕ) where
    -- an instruction that needs one pair more than there is room for runs
    runs_on : (i : Run) (pairs : List Pair) → length pairs ≤ room → room < length (noting pairs (stored_by board.bottom i)) → i.ran < (advance board i).ran
    unfolding execute stop noting stored_by
    runs_on i pairs fits more =
        one_more board (λ (x : Run). i.ran < x.ran) i
        (λ _ _. omega arith)
        (λ g t. absurd (let z = rw (g, t) at more in omega arith))
        (λ g. absurd (let z = rw g at more in omega arith))

    -- full, it ran fewer instructions than the interpreter
    fewer : (n : ℕ) (r : Run) → (run_noted board room n (fresh r [])).full ≡ true → (run_noted board room n (fresh r [])).run.ran < (interpret board n r).ran
    unfolding run_noted run_one interpret
    fewer zero r e = absurd (true≢false (sym e))
    fewer (suc n) r e =
        let k = run_noted board room n (fresh r []) in
        let i = interpret board n r in
        by-room room (λ (x : Noted). x.full ≡ true → x.run.ran < (advance board i).ran) k (stored_by board.bottom k.run) (advance board k.run)
        (λ f _. omega (arith, fewer n r f, ran_on i))
        (λ _ _ g. absurd (true≢false (sym g)))
        (λ none more _.
        rw (sym (not-full-run board room n r [] none)) (runs_on k.run k.pairs (room-kept board room n (fresh r []) (omega arith)) more))
        e

-- "journal full" is no refusal
carried : (a : Result FileEnding Refusal) → is_full a ≡ true → file_number a ≡ 0
carried (Ok FileEnding.Finished) e = refl
carried (Ok FileEnding.Undone) e = refl
carried (Ok FileEnding.Full) e = refl
carried (Err why) e = absurd (true≢false (sym e))

pub full-as-run : FullAsRun
full-as-run memory board position journal start n r words c z f words' journal' d y =
    let bottom = board.bottom in
    let v = accepted (run_verdict memory board position) (sym c.number ∙ z) in
    let u = accepted (file_verdict memory bottom) (sym d.number ∙ carried f.answer y) in
    let k = whole_file memory bottom journal start n in
    let first = begin start memory 0 in
    let q = file-returned memory bottom journal start n u d in
    let full : k.full ≡ true = sym (told k.full k.run.ending) ∙ ap (λ (x : FileResult). is_full x.answer) (sym q) ∙ y in
    let less : k.run.ran < (interpret (file_board bottom) n first).ran = fewer (file_board bottom) (room_in journal) n first full in
    let same : (interpret (file_board bottom) n first).ran ≡ (interpret board n (begin start memory position)).ran =
    ap (λ (w : Work). w.ran) (waits-only-wait bottom [] board.waits start memory 0 position n) in
    rw (returned memory board position start n v c, q, file-left memory bottom journal start n u d)
    (record {
      machine = rw full;
      words = rw full;
      ran = omega (arith, less, same);
      asked = omega (arith, less, ran_le (file_board bottom) n first);
    })
