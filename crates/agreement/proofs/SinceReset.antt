-- What follows the last reset, from the model's laws and the calls' contracts.
use Rattle.std.specs.Prelude.{Ok}
use Prim.Native.Nat.{ℕ, ◌+◌}
use mathlib.Core.Path.{◌≡◌, refl, sym, ap, ◌∙◌, subst₂}
use mathlib.Core.Bool.{true}
use mathlib.Core.List.{List, []}
use native.Mathlib.Numerals.{add-one}
use native.Mathlib.Omega.{arith}
use Rattle.model.specs.declared.GateState.{GateState}
use Rattle.model.specs.Board.{Board}
use Rattle.model.specs.Resets.{is_reset}
use Rattle.model.specs.Interpreter.{interpret}
use Rattle.model.specs.GateMachine.{Gate, gate, on_state, reset_state, gate_run}
use Rattle.model.specs.Refusals.{verdict_number, run_verdict}
use Rattle.model.specs.Agreement.{gate_from, interpreter_from}
use Rattle.model.specs.AfterReset.{since, AgreesSince}
use Rattle.model.specs.Continuations.{gate_sum}
use Rattle.model.proofs.Counts.{same-resets, plain-on, reset-on, going_on}
use Rattle.model.proofs.AfterReset.{without_reset, agreement-after-reset}
use Rattle.agreement.specs.TwoRuns.{Start}
use Rattle.agreement.specs.SinceReset.{OnReset, Restarted, AsStarted, SinceReset}
use Rattle.agreement.proofs.Series.{series-as-one, series-goes-on}
use Rattle.agreement.proofs.TwoRuns.{same-verdict, said}

-- a reset leaves a start
starts : (board : Board) (resets : List ℕ) (c : ℕ) (g : Gate) → is_reset resets c ≡ true → Start (gate_run board resets (c + 1) g).state
unfolding gate_run
starts board resets c g e = rw (add-one c, e) (record { row = refl; begun = refl; left = refl })

pub on_reset : OnReset
on_reset board memory start c resets resets₁ same held f s m w f₁ s₁ m₁ w₁ =
    let g = gate_from start memory in
    let p = series-as-one board memory start resets c f s m w ∙ same-resets board resets resets₁ c g same in
    let q = series-as-one board memory start resets₁ (c + 1) f₁ s₁ m₁ w₁ in
    let e : gate s₁ m₁ f₁ ≡ on_state (λ memory. reset_state) (gate s m f) = q ∙ reset-on board resets₁ c g held ∙ ap (on_state (λ memory. reset_state)) (sym p) in
    record {
      state = ap (λ (g : Gate). g.state) e;
      memory = ap (λ (g : Gate). g.memory) e;
      finished = ap (λ (g : Gate). g.finished) e;
      start = rw (ap (λ (g : Gate). g.state) q) (starts board resets₁ c g held);
    }

module _ (board : Board) (memory : List ℕ) (start : GateState) (c k f₁ : ℕ) (s₁ : GateState) (m₁ : List ℕ) (f : ℕ) (s : GateState) (m : List ℕ)
    (w : Restarted board memory start c k f₁ s₁ m₁ f s m) where
  abbrev g₀ : Gate
  g₀ = gate_from start memory

  first-as : gate s₁ m₁ f₁ ≡ gate_run board w.resets (c + 1) g₀
  first-as =
      series-as-one board memory start w.resets₁ (c + 1) f₁ s₁ m₁ w.first
      ∙ same-resets board w.resets₁ w.resets (c + 1) g₀ (λ i l. w.same i (omega arith))

  whole-as : gate s m f ≡ gate_run board w.resets (c + 1 + k) g₀
  whole-as = series-as-one board memory start w.resets (c + 1 + k) f s m w.whole

pub as_started : AsStarted
as_started board memory start c k f₁ s₁ m₁ f s m w later none f₂ s₂ m₂ d =
    let one = gate s₁ m₁ f₁ in
    let e : gate s m f ≡ gate_sum one (gate s₂ m₂ f₂) =
    whole-as board memory start c k f₁ s₁ m₁ f s m w
    ∙ plain-on board w.resets (c + 1) k (gate_from start memory) w.last.last
    ∙ ap (gate_run board [] k) (sym (first-as board memory start c k f₁ s₁ m₁ f s m w))
    ∙ going_on board [] k one
    ∙ ap (gate_sum one) (sym (series-as-one board m₁ s₁ later k f₂ s₂ m₂ d ∙ without_reset board later k (gate_from s₁ m₁) none)) in
    (ap (λ (g : Gate). g.state) e, ap (λ (g : Gate). g.memory) e, ap (λ (g : Gate). g.finished) e)

pub since-reset : SinceReset
since-reset board memory start n c k f₁ s₁ m₁ f s m w r words run =
    let p = first-as board memory start c k f₁ s₁ m₁ f s m w in
    let q = whole-as board memory start c k f₁ s₁ m₁ f s m w in
    let one : Gate = gate s₁ m₁ f₁ in
    let all : Gate = gate s m f in
    let a : AgreesSince n k (interpret board n (interpreter_from s₁ m₁)) one all =
    subst₂ (λ (x y : Gate). AgreesSince n k (interpret board n (interpreter_from x.state x.memory)) x y) (sym p) (sym q)
    (agreement-after-reset board w.resets start memory n c k w.last) in
    let begins : Start s₁ = rw (ap (λ (g : Gate). g.state) p) (starts board w.resets c (gate_from start memory) w.last.held) in
    let taken : run_verdict m₁ board s₁.position ≡ Ok tt =
    sym (same-verdict m₁ board s₁ begins) ∙ series-goes-on board memory start w.resets₁ (c + 1) f₁ s₁ m₁ w.first [] refl in
    record {
      taken = run.number ∙ ap verdict_number taken;
      counts = a.counts;
      step = said m₁ board s₁ n k (since one all) a.agrees taken r words run;
    }
