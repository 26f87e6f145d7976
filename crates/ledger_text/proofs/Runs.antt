-- A run of the interpreter told one instruction at a time: where it stands, one instruction more, and its text.
use Prim.Native.Nat.{ℕ, suc, ◌+◌, ◌-◌, ◌≤◌, ◌<◌}
use mathlib.Core.Path.{◌≡◌, refl, sym, ap, ap₂, ◌∙◌}
use mathlib.Core.Bool.{false, true≢false}
use mathlib.Core.List.{List, [], ◌++◌, append-nil}
use native.Mathlib.Nat.{zero-add}
use native.Mathlib.Numerals.{add-one}
use native.Mathlib.Omega.{arith}
use Rattle.model.specs.declared.Machine.{Machine}
use Rattle.model.specs.declared.Ending.TheVariants.{Finished}
use Rattle.model.specs.Interpreter.{pc, instruction, goes_on, Run, begin, execute, stop, advance, interpret}
use Rattle.model.proofs.Cases.{onward}
use Rattle.model.proofs.Waits.{position-stays}
use Rattle.model.proofs.Runs.{run_at, one_more, stopped-stays}
use Rattle.ledger_lines.specs.Lines.{most_lines, ledger_board, line, line_between, lines, heading, ending_text, ending_word, run_text}

-- ---- one instruction more

-- a run of one instruction
abbrev pub one_run : Machine → List ℕ → Run
one_run m memory = interpret ledger_board 1 (begin m memory 0)

module _ (m : Machine) (memory : List ℕ) (ran clocks : ℕ) where
  abbrev here : Run
  here = run_at m memory 0 ran clocks

  abbrev alone : Run
  alone = begin m memory 0

  goes : ((one_run m memory).ran ≡ 0 → ⊥) → advance ledger_board here ≡ run_at (one_run m memory).machine (one_run m memory).memory 0 (ran + 1) (clocks + (one_run m memory).clocks)
  unfolding interpret advance execute stop
  goes =
      one_more ledger_board (λ (o : Run). (o.ran ≡ 0 → ⊥) → advance ledger_board here ≡ run_at o.machine o.memory 0 (ran + 1) (clocks + o.clocks)) alone
      (λ _ t _. rw (t, position-stays [] refl, zero-add))
      (λ _ _ ne. absurd (ne refl))
      (λ e _. absurd (true≢false e))

  -- where it did not run: how the run ends before it, with the memory as it was
  pub stops : (one_run m memory).ran ≡ 0
      → (advance ledger_board here ≡ stop (one_run m memory).ending here) × ((one_run m memory).memory ≡ memory) × (goes_on (one_run m memory).ending ≡ false)
  unfolding interpret advance execute stop
  stops =
      one_more ledger_board
      (λ (o : Run). o.ran ≡ 0 → (advance ledger_board here ≡ stop o.ending here) × (o.memory ≡ memory) × (goes_on o.ending ≡ false))
      alone
      (λ _ _ e. absurd (omega arith))
      (λ _ t _. (rw t, refl, t))
      (λ e _. absurd (true≢false e))

-- ---- a run and its text after n instructions, from `start`

module _ (start : Run) where
  -- nothing changes after a stop
  between-same : (r : Run) → goes_on r.ending ≡ false → line_between r r ≡ []
  unfolding line_between
  between-same r e = rw e

  lines_stay : {n k : ℕ} → n ≤ k → goes_on (interpret ledger_board n start).ending ≡ false → lines k start ≡ lines n start
  unfolding lines
  lines_stay {n} h e =
      onward (λ (k : ℕ). lines k start ≡ lines n start) h refl
      (λ k l p.
      let i : interpret ledger_board k start ≡ interpret ledger_board n start = stopped-stays ledger_board start l e in
      let j : interpret ledger_board (suc k) start ≡ interpret ledger_board n start = stopped-stays ledger_board start (omega arith) e in
      ap₂ (λ (x y : List ℕ). x ++ y) p (ap₂ line_between i j ∙ between-same (interpret ledger_board n start) e)
      ∙ append-nil (lines n start))

  module _ {m : Machine} {memory : List ℕ} {n clocks : ℕ} (at : interpret ledger_board n start ≡ run_at m memory 0 n clocks) where
    after : ((one_run m memory).ran ≡ 0 → ⊥)
        → interpret ledger_board (suc n) start ≡ run_at (one_run m memory).machine (one_run m memory).memory 0 (n + 1) (clocks + (one_run m memory).clocks)
    unfolding interpret
    after ne = ap (advance ledger_board) at ∙ goes m memory n clocks ne

    pub next-run : ((one_run m memory).ran ≡ 0 → ⊥)
        → interpret ledger_board (n + 1) start ≡ run_at (one_run m memory).machine (one_run m memory).memory 0 (n + 1) (clocks + (one_run m memory).clocks)
    next-run ne = ap (λ (i : ℕ). interpret ledger_board i start) (add-one n) ∙ after ne

    pub next-lines : ((one_run m memory).ran ≡ 0 → ⊥)
        → lines (n + 1) start
        ≡ lines n start ++ line (n + 1) (pc memory m) (instruction memory m) (one_run m memory).clocks (one_run m memory).machine.flags
    unfolding lines line_between
    next-lines ne =
        let k = (one_run m memory).clocks in
        let own : clocks + k - clocks ≡ k = omega arith in
        ap (λ (i : ℕ). lines i start) (add-one n)
        ∙ ap (λ (l : List ℕ). lines n start ++ l)
        (ap₂ line_between at (after ne) ∙ ap (λ (c : ℕ). line (n + 1) (pc memory m) (instruction memory m) c (one_run m memory).machine.flags) own)

    last-run : (one_run m memory).ran ≡ 0 → interpret ledger_board (suc n) start ≡ stop (one_run m memory).ending (run_at m memory 0 n clocks)
    unfolding interpret
    last-run e = ap (advance ledger_board) at ∙ (stops m memory n clocks e).0

    last-lines : (one_run m memory).ran ≡ 0 → lines (suc n) start ≡ lines n start
    unfolding lines line_between stop
    last-lines e =
        ap₂ (λ (a b : Run). lines n start ++ line_between a b) at (last-run e) ∙ rw (stops m memory n clocks e).2 (append-nil (lines n start))

    has-stopped : (one_run m memory).ran ≡ 0 → goes_on (interpret ledger_board (suc n) start).ending ≡ false
    unfolding stop
    has-stopped e = ap (λ (r : Run). goes_on r.ending) (last-run e) ∙ (stops m memory n clocks e).2

    pub stopped-run : n < most_lines → (one_run m memory).ran ≡ 0
        → interpret ledger_board most_lines start ≡ stop (one_run m memory).ending (run_at m memory 0 n clocks)
    stopped-run h e = stopped-stays ledger_board start h (has-stopped e) ∙ last-run e

    pub stopped-text : n < most_lines → (one_run m memory).ran ≡ 0
        → heading ++ lines n start ++ ending_text (ending_word (one_run m memory).ending) n clocks ≡ run_text start
    unfolding run_text stop
    stopped-text h e =
        sym
        (ap₂ (λ (l : List ℕ) (r : Run). heading ++ l ++ ending_text (ending_word r.ending) r.ran r.clocks)
        (lines_stay h (has-stopped e) ∙ last-lines e)
        (stopped-run h e))

    pub finished-text : n ≡ most_lines → heading ++ lines n start ++ ending_text (ending_word Finished) n clocks ≡ run_text start
    unfolding run_text
    finished-text e =
        sym
        (ap (λ (i : ℕ). let r = interpret ledger_board i start in heading ++ lines i start ++ ending_text (ending_word r.ending) r.ran r.clocks) (sym e)
        ∙ ap (λ (r : Run). heading ++ lines n start ++ ending_text (ending_word r.ending) r.ran r.clocks) at)
