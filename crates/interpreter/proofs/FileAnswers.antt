-- The file run: refused, carried out, taken back.
use Rattle.interpreter.specs.declared.FileEnding.{FileEnding}
use Rattle.std.specs.Prelude.{Ok, Err}
use Prim.Native.Nat.{ℕ, ◌≤◌, min}
use mathlib.Core.Path.{◌≡◌, refl, sym, ap, ap₂, ◌∙◌}
use mathlib.Core.Bool.{Bool, true, false, not, cond, ◌&&◌}
use mathlib.Core.List.{List, []}
use native.Mathlib.Omega.{arith}
use lib.ListN.{length, replicate}
use Rattle.model.specs.declared.Machine.{Machine}
use Rattle.model.specs.declared.Refusal.{Refusal}
use Rattle.model.specs.Words.{overlay}
use Rattle.model.specs.Interpreter.{goes_on, Run, begin}
use Rattle.model.specs.Journal.{room_in, Noted, fresh, completes, journal_words}
use Rattle.model.specs.Refusals.{verdict_number, left_by, memory_fits, bottom_fits, file_verdict, Verdict}
use Rattle.model.proofs.Waits.{first_fits}
use Rattle.model.proofs.Verdicts.{both, memory-bounds}
use Rattle.marks.proofs.Telling.{none_told}
use Rattle.engine.specs.declared.Ended.{Ended}
use Rattle.engine.specs.Clocks.{begins_at}
use Rattle.engine.specs.Keeping.{Kept, kept_at, keep_run}
use Rattle.engine.specs.Engine.{EngineEnds}
use Rattle.engine.proofs.Spending.{begins-there}
use Rattle.engine.proofs.Noting.{Follows, follows-run}
use Rattle.journal.specs.Undo.{undone, restored}
use Rattle.journal.proofs.Restoring.{run-restores}
use Rattle.journal.proofs.Taking.{laid-over, taken}
use Rattle.interpreter.specs.declared.FileResult.{FileResult}
use Rattle.interpreter.specs.Calls.{file_result, memory_end, file_number, file_board, whole_file, file_returned, file_words, file_places, FileRuns}
use Rattle.interpreter.specs.Ends.{FileEnds}

-- ---- what the call returns and leaves

module _ (memory : List ℕ) (bottom : ℕ) (journal : List ℕ) (start : Machine) (count : ℕ) where
  abbrev whole : Noted
  whole = whole_file memory bottom journal start count

  file-numbered : (v : Verdict) → file_number (file_result v start whole).answer ≡ verdict_number v
  file-numbered (Ok u) = refl
  file-numbered (Err why) = refl

  as_file : (v : Verdict) → v ≡ file_verdict memory bottom → {r : FileResult} {memory' journal' : List ℕ}
      → r ≡ file_result v start whole → memory' ≡ left_by v (memory_end memory whole) memory
      → journal' ≡ left_by v (overlay (journal_words whole.pairs) journal) journal
      → FileRuns memory bottom journal start count memory' journal' r
  unfolding file_returned file_words file_places
  as_file v e p q j =
      let all = p ∙ ap (λ (v : Verdict). file_result v start whole) e in
      record {
        result = all;
        words = q ∙ ap (λ (v : Verdict). left_by v (memory_end memory whole) memory) e;
        places = j ∙ ap (λ (v : Verdict). left_by v (overlay (journal_words whole.pairs) journal) journal) e;
        number = ap (λ (r : FileResult). file_number r.answer) all ∙ file-numbered (file_verdict memory bottom);
      }

  -- what a file run that is carried out returns, and leaves in the memory and in the journal
  module _ {r : FileResult} {memory' journal' : List ℕ} (v : file_verdict memory bottom ≡ Ok tt)
      (c : FileRuns memory bottom journal start count memory' journal' r) where
    pub file-returned : r ≡ file_result (Ok tt) start whole
    unfolding file_returned
    file-returned = c.result ∙ ap (λ (w : Verdict). file_result w start whole) v

    pub file-left : memory' ≡ memory_end memory whole
    unfolding file_words
    file-left = c.words ∙ ap (λ (w : Verdict). left_by w (memory_end memory whole) memory) v

    pub file-placed : journal' ≡ overlay (journal_words whole.pairs) journal
    unfolding file_places
    file-placed = c.places ∙ ap (λ (w : Verdict). left_by w (overlay (journal_words whole.pairs) journal) journal) v

-- ---- from the loop

accepted-most : (memory : List ℕ) (bottom : ℕ) → file_verdict memory bottom ≡ Ok tt → length memory ≤ 16_777_216
unfolding file_verdict
accepted-most memory bottom v = (memory-bounds memory (both (memory_fits memory) (bottom_fits memory bottom) v).0).1

module _ {memory : List ℕ} {bottom : ℕ} {journal : List ℕ} {start : Machine} {count : ℕ} {v : Verdict} (e : v ≡ file_verdict memory bottom) where
  pub file-refused : {why : Refusal} → v ≡ Err why
      → FileRuns memory bottom journal start count memory journal (record { answer = Err why; machine = start; ran = 0; pairs = 0 })
  file-refused {why} p = as_file memory bottom journal start count (Err why) (sym p ∙ e) refl refl refl

  module _ (p : v ≡ Ok tt) {memory' journal' map' : List ℕ} {d : Ended}
      (h : EngineEnds memory (file_board bottom) (begins_at [] 0) journal (replicate 49184 0) 0 start count memory' journal' map' d) where
    abbrev n : Noted
    n = whole_file memory bottom journal start count

    abbrev k : Kept
    k = keep_run (file_board bottom) count (kept_at (begin start memory (begins_at [] 0)) journal (replicate 49184 0) 0)

    begins : Follows (length memory) journal (kept_at (begin start memory (begins_at [] 0)) journal (replicate 49184 0) 0) (fresh (begin start memory 0) [])
    unfolding journal_words
    begins =
        record {
          run = ap (begin start memory) (begins-there [] 0 (first_fits []));
          full = refl;
          counted = refl;
          places = refl;
          told = none_told journal (length memory) (accepted-most memory bottom (sym e ∙ p));
          fits = omega arith;
          size = refl;
        }

    follows : Follows (length memory) journal k n
    follows = follows-run (file_board bottom) (length memory) journal count _ _ begins

    -- the pairs taken back give the memory before
    restores : undone (min d.pairs (room_in journal')) journal' memory' ≡ memory
    unfolding restored
    restores =
        rw (ap (λ (x : Ended). x.pairs) h.result ∙ follows.counted, h.places ∙ follows.places, h.words ∙ ap (λ (r : Run). r.memory) follows.run)
        (taken journal n.pairs follows.fits n.run.memory ∙ run-restores (file_board bottom) (room_in journal) count (fresh (begin start memory 0) []))

    machine-by : (f g : Bool) (m : Machine) → cond (not f && g) (cond f start m) start ≡ cond (cond f false g) m start
    machine-by true g m = refl
    machine-by false true m = refl
    machine-by false false m = refl

    words-by : (f g : Bool) (a : List ℕ) {b c : List ℕ} → c ≡ b → cond (not f && g) a c ≡ cond (cond f false g) a b
    words-by true g a q = q
    words-by false true a q = refl
    words-by false false a q = q

    pub file-carried : {memory'' : List ℕ} {r : FileResult} → FileEnds memory' journal' start d memory'' r
        → FileRuns memory bottom journal start count memory'' journal' r
    file-carried x =
        let i = follows in
        let full : d.full ≡ n.full = ap (λ (x : Ended). x.full) h.result ∙ i.full in
        let ending : d.ending ≡ n.run.ending = ap (λ (x : Ended). x.ending) h.result ∙ ap (λ (r : Run). r.ending) i.run in
        let machine : d.machine ≡ cond n.full start n.run.machine =
        ap (λ (x : Ended). x.machine) h.result ∙ ap₂ (λ (f : Bool) (r : Run). cond f start r.machine) i.full i.run in
        let ran : d.ran ≡ n.run.ran = ap (λ (x : Ended). x.ran) h.result ∙ ap (λ (r : Run). r.ran) i.run in
        let pairs : d.pairs ≡ length n.pairs = ap (λ (x : Ended). x.pairs) h.result ∙ i.counted in
        let words : memory' ≡ n.run.memory = h.words ∙ ap (λ (r : Run). r.memory) i.run in
        as_file memory bottom journal start count (Ok tt) (sym p ∙ e)
        (x.result ∙ rw (full, ending, machine, ran, pairs, machine-by n.full (goes_on n.run.ending) n.run.machine))
        (x.words ∙ rw (full, ending) (words-by n.full (goes_on n.run.ending) memory' restores ∙ ap (λ (l : List ℕ). cond (completes n) l memory) words))
        (h.places ∙ i.places ∙ laid-over journal n.pairs i.fits)
