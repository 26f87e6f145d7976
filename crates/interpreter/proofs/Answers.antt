-- The public calls: refused, carried out, undone.
use Rattle.std.specs.Prelude.{Ok, Err}
use Prim.Native.Nat.{ℕ, ◌≤◌}
use mathlib.Core.Path.{◌≡◌, refl, sym, ap, ◌∙◌}
use mathlib.Core.List.{List, []}
use Rattle.model.specs.declared.Machine.{Machine}
use Rattle.model.specs.declared.Refusal.{Refusal}
use Rattle.model.specs.Board.{Board}
use Rattle.model.specs.Interpreter.{Run, begin, interpret}
use Rattle.model.specs.Refusals.{verdict_number, left_by, most_waits, run_verdict, Verdict}
use Rattle.model.proofs.Waits.{fits_low}
use Rattle.model.proofs.Valid.{run-passed, run-accepts-next}
use Rattle.engine.specs.declared.Ended.{Ended}
use Rattle.engine.specs.Clocks.{begins_at}
use Rattle.engine.specs.Keeping.{Kept, kept_at, keep_run}
use Rattle.engine.specs.Engine.{ended_of, EngineEnds}
use Rattle.engine.proofs.Spending.{begins-there}
use Rattle.engine.proofs.Noting.{plain-run}
use Rattle.interpreter.specs.declared.RunResult.{RunResult}
use Rattle.interpreter.specs.Calls.{run_result, run_number, run_returned, run_words, Runs}

-- ---- the run

module _ (memory : List ℕ) (board : Board) (position : ℕ) (start : Machine) (count : ℕ) where
  abbrev ran : Run
  ran = interpret board count (begin start memory position)

  numbered : (v : Verdict) (r : Run) → run_number (run_result v position start r).answer ≡ verdict_number v
  numbered (Ok u) r = refl
  numbered (Err why) r = refl

  as_result : (v : Verdict) → v ≡ run_verdict memory board position → {r : RunResult} {memory' : List ℕ}
      → r ≡ run_result v position start ran → memory' ≡ left_by v ran.memory memory
      → Runs memory board position start count memory' r
  unfolding run_returned run_words
  as_result v e p q =
      let n = run_verdict memory board position in
      let full = p ∙ ap (λ (v : Verdict). run_result v position start ran) e in
      record {
        result = full;
        words = q ∙ ap (λ (v : Verdict). left_by v ran.memory memory) e;
        number = ap (λ (r : RunResult). run_number r.answer) full ∙ numbered n ran;
      }

  -- what the contract says is what some run returns and leaves
  pub run-contracted : Runs memory board position start count (run_words memory board position start count) (run_returned memory board position start count)
  unfolding run_returned run_words
  run-contracted = as_result (run_verdict memory board position) refl refl refl

  -- what a run that is carried out returns, and leaves in the memory
  module _ {r : RunResult} {memory' : List ℕ} (v : run_verdict memory board position ≡ Ok tt) (c : Runs memory board position start count memory' r) where
    pub returned : r ≡ run_result (Ok tt) position start ran
    unfolding run_returned
    returned = c.result ∙ ap (λ (w : Verdict). run_result w position start ran) v

    pub left_in : memory' ≡ ran.memory
    unfolding run_words
    left_in = c.words ∙ ap (λ (w : Verdict). left_by w ran.memory memory) v

-- the list position that an accepted run begins at fits, and the one that it comes to is small
position-low : (memory : List ℕ) (board : Board) (position : ℕ) (start : Machine) (count : ℕ) → run_verdict memory board position ≡ Ok tt
    → (interpret board count (begin start memory position)).position ≤ most_waits
position-low memory board position start count v =
    let r = interpret board count (begin start memory position) in
    let next = run-passed r.memory board r.position (run-accepts-next memory board position start count v) in
    fits_low board.waits r.position most_waits next.short next.there

from_there : (memory : List ℕ) (board : Board) (position : ℕ) → run_verdict memory board position ≡ Ok tt → begins_at board.waits position ≡ position
from_there memory board position v = begins-there board.waits position (run-passed memory board position v).there

module _ {memory : List ℕ} {board : Board} (position : ℕ) {start : Machine} {count : ℕ} {v : Verdict} (e : v ≡ run_verdict memory board position) where
  pub run-refused : {why : Refusal} → v ≡ Err why
      → Runs memory board position start count memory (record { answer = Err why; machine = start; ran = 0; clocks = 0; position = position })
  run-refused {why} p = as_result memory board position start count (Err why) (sym p ∙ e) refl refl

  module _ (p : v ≡ Ok tt) {journal memory' journal' map' : List ℕ} {d : Ended} (h : EngineEnds memory board (begins_at board.waits position) journal [] 0 start count memory' journal' map' d) where
    -- without a journal the loop does what the interpreter does
    abbrev here : Run
    here = interpret board count (begin start memory position)

    abbrev kept : Kept
    kept = kept_at here journal [] 0

    plain : keep_run board count (kept_at (begin start memory (begins_at board.waits position)) journal [] 0) ≡ kept
    plain =
        plain-run board count (begin start memory (begins_at board.waits position)) journal 0
        ∙ ap (λ (x : ℕ). kept_at (interpret board count (begin start memory x)) journal [] 0) (from_there memory board position (sym e ∙ p))

    ended : d ≡ ended_of start kept
    ended = h.result ∙ ap (ended_of start) plain

    pub position-fits : d.position ≤ most_waits
    position-fits = rw (ap (λ (d : Ended). d.position) ended) (position-low memory board position start count (sym e ∙ p))

    pub run-carried : Runs memory board position start count memory' (record { answer = Ok d.ending; machine = d.machine; ran = d.ran; clocks = d.clocks; position = d.position })
    run-carried =
        as_result memory board position start count (Ok tt) (sym p ∙ e) (rw ended) (h.words ∙ ap (λ (k : Kept). k.run.memory) plain)
