-- The bottom of memory: no call alters it, and where nothing is stored below it the calls return and leave what they do with the bottom at 0.
use Rattle.std.specs.Prelude.{Ok, Err}
use Prim.Native.Nat.{ℕ}
use mathlib.Core.Path.{◌≡◌, refl, sym, ap, ◌∙◌}
use mathlib.Core.List.{List, []}
use lib.ListN.{take}
use Rattle.model.specs.Words.{overlay}
use Rattle.model.specs.Interpreter.{Run, begin, interpret}
use Rattle.model.specs.Journal.{Noted, fresh, room_in, run_one, run_noted, completes, journal_words}
use Rattle.model.specs.GateMachine.{Gate}
use Rattle.model.specs.Refusals.{left_by, run_verdict, file_verdict, gate_verdict, Verdict}
use Rattle.model.specs.Agreement.{gate_from}
use Rattle.model.specs.Bottom.{level}
use Rattle.model.proofs.Cases.{pick}
use Rattle.model.proofs.Journals.{by-room, run-keeps}
use Rattle.model.proofs.Verdicts.{accepted}
use Rattle.model.proofs.Bottom.{run-keeps-bottom, gate-keeps-bottom, run-as-level, gate-as-level, accepted-as-level}
use Rattle.interpreter.specs.Calls.{run_result, run_words, file_board, file_result, memory_end, whole_file, file_words}
use Rattle.interpreter.proofs.Answers.{returned, left_in}
use Rattle.interpreter.proofs.FileAnswers.{file-returned, file-left, file-placed}
use Rattle.gate_machine.specs.Calls.{gate_result, gate_words}
use Rattle.gate_machine.proofs.Answers.{not-refused, result-of, words_of}
use Rattle.agreement.specs.Bottom.{RunCallKeepsBottom, FileCallKeepsBottom, GateCallKeepsBottom, RunCallAsLevel, FileCallAsLevel, GateCallAsLevel}

-- ---- the bottom is kept

-- by a call that leaves words which keep it, or is turned down
left-keeps : (bottom : ℕ) (memory left : List ℕ) (v : Verdict) → take bottom left ≡ take bottom memory → take bottom (left_by v left memory) ≡ take bottom memory
left-keeps bottom memory left (Ok u) e = e
left-keeps bottom memory left (Err why) e = refl

pub run-call-keeps-bottom : RunCallKeepsBottom
unfolding run_words
run-call-keeps-bottom memory board position start n r words c =
    ap (take board.bottom) c.words
    ∙ left-keeps board.bottom memory _ (run_verdict memory board position) (run-keeps-bottom board n (begin start memory position))

-- a run with a journal, full or not
noted-keeps : (bottom room n : ℕ) (k : Noted) → take bottom (run_noted (file_board bottom) room n k).run.memory ≡ take bottom k.run.memory
unfolding run_one interpret
noted-keeps bottom room n k =
    let K : Noted → Type 0 = λ x. take bottom x.run.memory ≡ take bottom k.run.memory in
    run-keeps (file_board bottom) room K
    (λ x h. by-room room K x _ _ (λ _. h) (λ _ _. run-keeps-bottom (file_board bottom) 1 x.run ∙ h) (λ _ _. h)) n k refl

pub file-call-keeps-bottom : FileCallKeepsBottom
unfolding file_words
file-call-keeps-bottom memory bottom journal start n r words places c =
    ap (take bottom) c.words
    ∙ left-keeps bottom memory _ (file_verdict memory bottom)
    (pick (λ (l : List ℕ). take bottom l ≡ take bottom memory) (completes (whole_file memory bottom journal start n))
    (noted-keeps bottom (room_in journal) n (fresh (begin start memory 0) [])) refl)

pub gate-call-keeps-bottom : GateCallKeepsBottom
unfolding gate_words
gate-call-keeps-bottom memory board resets start k r words c =
    ap (take board.bottom) c.words
    ∙ left-keeps board.bottom memory _ (gate_verdict memory board resets start) (gate-keeps-bottom board resets k (gate_from start memory))

-- ---- as with the bottom at 0

pub run-call-as-level : RunCallAsLevel
run-call-as-level memory board position start n never r words c z r' words' c' =
    let v = accepted (run_verdict memory board position) (sym c.number ∙ z) in
    let v' = (accepted-as-level memory board).run position v in
    let e = (run-as-level board n (begin start memory position) never).run in (
      returned memory board position start n v c ∙ ap (run_result (Ok tt) position start) e ∙ sym (returned memory (level board) position start n v' c'),
      left_in memory board position start n v c ∙ ap (λ (x : Run). x.memory) e ∙ sym (left_in memory (level board) position start n v' c'),
    )

pub file-call-as-level : FileCallAsLevel
file-call-as-level memory bottom journal start n never r words places c z r' words' places' c' =
    let v = accepted (file_verdict memory bottom) (sym c.number ∙ z) in
    let v' = (accepted-as-level memory (file_board bottom)).file v in
    let e : whole_file memory bottom journal start n ≡ whole_file memory 0 journal start n =
    (run-as-level (file_board bottom) n (begin start memory 0) never).journal (room_in journal) [] in (
      file-returned memory bottom journal start n v c ∙ ap (file_result (Ok tt) start) e ∙ sym (file-returned memory 0 journal start n v' c'),
      file-left memory bottom journal start n v c ∙ ap (memory_end memory) e ∙ sym (file-left memory 0 journal start n v' c'),
      file-placed memory bottom journal start n v c
          ∙ ap (λ (k : Noted). overlay (journal_words k.pairs) journal) e
          ∙ sym (file-placed memory 0 journal start n v' c'),
    )

pub gate-call-as-level : GateCallAsLevel
gate-call-as-level memory board resets start k never r words c z r' words' c' =
    let v = not-refused memory board resets start k c z in
    let v' = (accepted-as-level memory board).gate resets start v in
    let e = gate-as-level board resets k (gate_from start memory) never in (
      result-of memory board resets start k c v ∙ ap (gate_result (Ok tt) start) e ∙ sym (result-of memory (level board) resets start k c' v'),
      words_of memory board resets start k c v ∙ ap (λ (x : Gate). x.memory) e ∙ sym (words_of memory (level board) resets start k c' v'),
    )
