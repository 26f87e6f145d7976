-- A gate run that is accepted or turned down meets its contract, and what the contract says of one that is carried out.
use Rattle.std.specs.Prelude.{Ok, Err}
use Prim.Native.Nat.{ℕ}
use mathlib.Core.Path.{◌≡◌, refl, sym, ap, ◌∙◌}
use mathlib.Core.List.{List}
use Rattle.model.specs.declared.GateState.{GateState}
use Rattle.model.specs.declared.Refusal.{Refusal}
use Rattle.model.specs.Board.{Board}
use Rattle.model.specs.GateMachine.{Gate, gate, gate_run}
use Rattle.model.specs.Refusals.{verdict_number, left_by, gate_verdict, Verdict}
use Rattle.model.specs.Agreement.{gate_from}
use Rattle.model.proofs.Verdicts.{accepted}
use Rattle.gate_machine.specs.declared.GateResult.{GateResult}
use Rattle.gate_machine.specs.Calls.{gate_result, gate_number, gate_returned, gate_words, GateRuns, gate_finished}

module _ (memory : List ℕ) (board : Board) (resets : List ℕ) (start : GateState) (clocks : ℕ) {v : Verdict} (said : v ≡ gate_verdict memory board resets start) where
  abbrev end : Gate
  end = gate_run board resets clocks (gate_from start memory)

  returned : {w : Verdict} → v ≡ w → gate_result w start end ≡ gate_returned memory board resets start clocks
  unfolding gate_returned
  returned e = ap (λ (w : Verdict). gate_result w start end) (sym e ∙ said)

  left : {w : Verdict} → v ≡ w → left_by w end.memory memory ≡ gate_words memory board resets start clocks
  unfolding gate_words
  left e = ap (λ (w : Verdict). left_by w end.memory memory) (sym e ∙ said)

module _ {memory : List ℕ} {board : Board} {resets : List ℕ} {start : GateState} {clocks : ℕ} {v : Verdict} (said : v ≡ gate_verdict memory board resets start) where
  pub run-carried : v ≡ Ok tt → {s : GateState} {m : List ℕ} {f : ℕ} → gate s m f ≡ gate_run board resets clocks (gate_from start memory)
      → GateRuns memory board resets start clocks m (record { outcome = Ok f; state = s })
  run-carried e q =
      record {
        result = ap (gate_result (Ok tt) start) q ∙ returned memory board resets start clocks said e;
        words = ap (λ (g : Gate). g.memory) q ∙ left memory board resets start clocks said e;
        number = ap verdict_number (sym e ∙ said);
      }

  pub run-refused : {why : Refusal} → v ≡ Err why
      → GateRuns memory board resets start clocks memory (record { outcome = Err why; state = start })
  run-refused e =
      record {
        result = returned memory board resets start clocks said e;
        words = left memory board resets start clocks said e;
        number = ap verdict_number (sym e ∙ said);
      }

-- what the contract says is what some call returns and leaves
pub gate-contracted : (memory : List ℕ) (board : Board) (resets : List ℕ) (start : GateState) (clocks : ℕ)
    → GateRuns memory board resets start clocks (gate_words memory board resets start clocks) (gate_returned memory board resets start clocks)
unfolding gate_returned
gate-contracted memory board resets start clocks =
    record { result = refl; words = refl; number = numbered (gate_verdict memory board resets start) (gate_run board resets clocks (gate_from start memory)) }
  where
    numbered : (v : Verdict) (g : Gate) → gate_number (gate_result v start g).outcome ≡ verdict_number v
    numbered (Ok u) g = refl
    numbered (Err why) g = refl

-- what a call that is carried out returns and leaves
module _ (memory : List ℕ) (board : Board) (resets : List ℕ) (start : GateState) (clocks : ℕ) {memory' : List ℕ} {r : GateResult}
    (h : GateRuns memory board resets start clocks memory' r) where
  -- what is numbered 0 was not turned down
  pub not-refused : gate_number r.outcome ≡ 0 → gate_verdict memory board resets start ≡ Ok tt
  not-refused z = accepted (gate_verdict memory board resets start) (sym h.number ∙ z)

  module _ (e : gate_verdict memory board resets start ≡ Ok tt) where
    abbrev last : Gate
    last = gate_run board resets clocks (gate_from start memory)

    pub result-of : r ≡ gate_result (Ok tt) start last
    unfolding gate_returned
    result-of = h.result ∙ ap (λ (v : Verdict). gate_result v start last) e

    pub words_of : memory' ≡ last.memory
    unfolding gate_words
    words_of = h.words ∙ ap (λ (v : Verdict). left_by v last.memory memory) e

    pub carried-out : gate r.state memory' (gate_finished r.outcome) ≡ last
    carried-out = λ i. gate (result-of i).state (words_of i) (gate_finished (result-of i).outcome)
