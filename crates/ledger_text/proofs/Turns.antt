-- The loop that puts the text of a run in: where it stands, one line more, and its two ends.
use Rattle.std.specs.Prelude.{Ok}
use Prim.Native.Nat.{ℕ, ◌+◌, ◌^◌, ◌≤◌, ◌<◌}
use mathlib.Core.Path.{◌≡◌, refl, sym, ap, subst, ◌∙◌}
use mathlib.Core.List.{List}
use native.Mathlib.Omega.{arith}
use lib.ListN.{length}
use Rattle.model.specs.declared.Machine.{Machine}
use Rattle.model.specs.declared.Ending.{Ending}
use Rattle.model.specs.declared.Ending.TheVariants.{Finished}
use Rattle.model.specs.Interpreter.{Run, pc, instruction, begin, stop, interpret}
use Rattle.model.specs.Refusals.{most_words, run_verdict}
use Rattle.model.proofs.Runs.{run_at}
use Rattle.model.proofs.Verdicts.{run-accepted}
use Rattle.interpreter.specs.declared.RunResult.{RunResult}
use Rattle.interpreter.specs.Calls.{run_result, Runs}
use Rattle.interpreter.proofs.Answers.{returned, left_in}
use Rattle.ledger_lines.specs.Lines.{most_lines, ledger_board, line, lines, heading, ending_text, ending_word}
use Rattle.ledger_lines.proofs.Lengths.{clocks-small, lines-length}
use Rattle.ledger_text.specs.declared.writer.Writer.{Writer}
use Rattle.ledger_text.specs.Parts.{Writes, ending_of, RunPuts}
use Rattle.ledger_text.proofs.Parts.{◌⊳◌, written}
use Rattle.ledger_text.proofs.Runs.{one_run, stops, next-run, next-lines, stopped-run, stopped-text, finished-text}

-- ---- the loop, from a writer that put the heading in

module _ (start : Machine) (memory₀ : List ℕ) (writer₀ : Writer) where
  abbrev first : Run
  first = begin start memory₀ 0

  -- after so many lines
  pub record At (memory : List ℕ) (writer : Writer) (machine : Machine) (ran clocks : ℕ) : Type 0 where
    pub state : interpret ledger_board ran first ≡ run_at machine memory 0 ran clocks
    pub told : Writes writer₀ (lines ran first) writer
    pub below : ran ≤ most_lines
    pub words : length memory ≡ length memory₀

module _ {start : Machine} {memory₀ : List ℕ} {writer₀ : Writer} where
  pub begins : At start memory₀ writer₀ memory₀ writer₀ start 0 0
  unfolding interpret lines
  begins =
      record {
        state = refl;
        told = record { put = record { buffer = refl; place = omega arith }; same_reference = refl };
        below = omega arith;
        words = refl;
      }

  module _ {memory : List ℕ} {writer : Writer} {machine : Machine} {ran clocks : ℕ} (a : At start memory₀ writer₀ memory writer machine ran clocks) where
    abbrev run₀ : Run
    run₀ = begin start memory₀ 0

    -- the lines are at most 480 bytes, after a heading of at most 25
    pub near_start : {w : Writer} → w.at ≡ 0 → Writes w heading writer₀ → writer.at < 2 ^ 16
    unfolding heading
    near_start begun top =
        omega (arith, begun, top.put.place, a.told.put.place, lines-length start memory₀ ran (omega (arith, a.below)), a.below)

    clocks-so-far : clocks ≤ 176
    clocks-so-far = omega (arith, ap (λ (x : Run). x.clocks) a.state, clocks-small ran run₀, a.below)

    module _ {memory' : List ℕ} {r : RunResult} (h : Runs memory ledger_board 0 machine 1 memory' r)
        (fits : (0 < length memory₀) × (length memory₀ ≤ most_words)) where
      accepted : run_verdict memory ledger_board 0 ≡ Ok tt
      accepted = run-accepted memory (omega (arith, a.words)) (omega (arith, a.words))

      now-is : r ≡ run_result (Ok tt) 0 machine (one_run machine memory)
      now-is = returned memory ledger_board 0 machine 1 accepted h

      words_are : memory' ≡ (one_run machine memory).memory
      words_are = left_in memory ledger_board 0 machine 1 accepted h

      pub total_fits : clocks + r.clocks ≤ 200
      total_fits =
          omega (
            arith,
            clocks-so-far,
            ap (λ (x : RunResult). x.clocks) now-is,
            clocks-small 1 (begin machine memory 0),
          )

      -- one line more
      pub turn : {writer' : Writer} {word : ℕ} → (r.ran ≡ 0 → ⊥) → ran < most_lines
          → length memory' ≡ length memory → word ≡ instruction memory machine
          → Writes writer (line (ran + 1) (pc memory machine) word r.clocks r.machine.flags) writer'
          → At start memory₀ writer₀ memory' writer' r.machine (ran + 1) (clocks + r.clocks)
      turn went less same word-is put =
          let goes : (one_run machine memory).ran ≡ 0 → ⊥ = λ e. went (ap (λ (x : RunResult). x.ran) now-is ∙ e) in
          record {
            state = next-run run₀ a.state goes ∙ rw (now-is, words_are);
            told = rw (next-lines run₀ a.state goes) (a.told ⊳ (rw (now-is, word-is) at put));
            below = omega arith;
            words = same ∙ a.words;
          }

      -- the run stops
      pub stopped : {e : Ending} {out out' : List ℕ} {size : ℕ} {w w' : Writer} → r.ran ≡ 0 → ran < most_lines
          → (w.out.now ≡ out) × (w.at ≡ 0) → Writes w heading writer₀ → e ≡ ending_of r.answer
          → Writes writer (ending_text (ending_word e) ran clocks) w' → out' ≡ w'.out.now → size ≡ w'.at
          → RunPuts start memory₀ out memory' out' size
      unfolding stop
      stopped {e} none less begun top said put left told =
          let stays : (one_run machine memory).ran ≡ 0 = sym (ap (λ (x : RunResult). x.ran) now-is) ∙ none in
          let why : e ≡ (one_run machine memory).ending =
          said ∙ ap (λ (x : RunResult). ending_of x.answer) now-is in
          record {
            text = rw (stopped-text run₀ a.state less stays) at (written begun (top ⊳ a.told ⊳ (rw why at put)) left told);
            words =
                words_are
                ∙ (stops machine memory ran clocks stays).1
                ∙ sym (ap (λ (x : Run). x.memory) (stopped-run run₀ a.state less stays));
          }

    -- all instructions ran
    pub finished : {out out' : List ℕ} {size : ℕ} {w w' : Writer} → most_lines ≤ ran → (w.out.now ≡ out) × (w.at ≡ 0)
        → Writes w heading writer₀ → Writes writer (ending_text (ending_word Finished) most_lines clocks) w' → out' ≡ w'.out.now → size ≡ w'.at
        → RunPuts start memory₀ out memory out' size
    finished {w' = w'} most begun top put left told =
        let all : ran ≡ most_lines = omega (arith, a.below) in
        let put' = subst (λ (n : ℕ). Writes writer (ending_text (ending_word Finished) n clocks) w') (sym all) put in
        record {
          text = rw (finished-text run₀ a.state all) at (written begun (top ⊳ a.told ⊳ put') left told);
          words = sym (ap (λ (x : Run). x.memory) a.state) ∙ ap (λ (n : ℕ). (interpret ledger_board n run₀).memory) all;
        }
