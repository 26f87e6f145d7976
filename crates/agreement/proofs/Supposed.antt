-- What demand 3 supposes can be met, by gate runs of one clock each, with reset held or not.
use Prim.Native.Nat.{ℕ, zero, suc, ◌+◌, ◌<◌, ◌≤◌}
use mathlib.Core.Path.{◌≡◌, refl, sym, ap, subst, ◌∙◌}
use mathlib.Core.Bool.{Bool, true, false, cond, ◌||◌, true≢false}
use mathlib.Core.List.{List, [], ◌∷◌}
use native.Mathlib.Nat.{add-zero}
use native.Mathlib.Omega.{arith}
use lib.Dec.{eqb}
use borrow.Author.Tests.{eqb-true}
use Rattle.model.specs.Resets.{is_reset, rises, resets_then}
use Rattle.model.specs.Refusals.{verdict_number}
use Rattle.model.specs.Agreement.{machine_of}
use Rattle.model.proofs.Cases.{up_to}
use Rattle.model.proofs.Resets.{reset-before, reset-then}
use Rattle.interpreter.specs.Calls.{run_returned, run_words}
use Rattle.interpreter.proofs.Answers.{run-contracted}
use Rattle.gate_machine.proofs.Answers.{gate-contracted}
use Rattle.agreement.specs.Series.{one, more}
use Rattle.agreement.specs.Supposed.{most_clocks, Askable, InCalls, Clocked, AnyClocks, CanBeMet, RestartCanBeMet}
use Rattle.agreement.proofs.Series.{series-goes-on}
use Rattle.agreement.proofs.TwoRuns.{same-verdict}

-- the list of one clock
abbrev held : Bool → List ℕ
held t = cond t (0 ∷ []) []

held-rises : (t : Bool) → rises (held t) ≡ true
held-rises true = refl
held-rises false = refl

held_first : (t : Bool) → is_reset (held t) 0 ≡ t
held_first true = refl
held_first false = refl

held-askable : (t : Bool) → Askable (held t) 1
held-askable true = (omega arith, λ i e. go i (eqb 0 i) refl e)
  where
    go : (i : ℕ) (t : Bool) → eqb 0 i ≡ t → (t || false) ≡ true → i ≤ most_clocks
    go i true e q = omega (arith, eqb-true 0 i e)
    go i false e q = absurd (true≢false (sym q))
held-askable false = (omega arith, λ i e. absurd (true≢false (sym e)))

pub any_clocks : AnyClocks
unfolding InCalls
any_clocks memory board start resets zero v =
    let h = gate-contracted memory board [] start 0 in
    record {
      list = [];
      same = λ i l. absurd (omega arith);
      finished = _;
      state = _;
      words = _;
      series = one h (h.number ∙ ap verdict_number v);
      calls = (omega arith, λ i e. absurd (true≢false (sym e)));
    }
any_clocks memory board start resets (suc k) v =
    let c = any_clocks memory board start resets k v in
    let t = is_reset resets k in
    let list = resets_then k c.list (held t) in
    let u = series-goes-on board memory start c.list k c.finished c.state c.words c.series (held t) (held-rises t) in
    let h = gate-contracted c.words board (held t) c.state 1 in
    let now : is_reset list k ≡ t = ap (is_reset list) (sym (add-zero k)) ∙ reset-then k c.list (held t) 0 ∙ held_first t in
    let same : (i : ℕ) → i < suc k → is_reset list i ≡ is_reset resets i =
    up_to (λ (i : ℕ). is_reset list i ≡ is_reset resets i) (λ i l. reset-before k c.list (held t) i l ∙ c.same i l) now in
    let next : Clocked memory board start resets (k + 1) =
    record {
      list = list;
      same = λ i l. same i (omega arith);
      finished = _;
      state = _;
      words = _;
      series = more c.series h (h.number ∙ ap verdict_number u);
      calls = (c.calls, held-askable t);
    } in
    subst (Clocked memory board start resets) (omega arith) next

pub can_be_met : CanBeMet
can_be_met memory board start n k s v =
    let h = run-contracted memory board start.position (machine_of start) n in
    record {
      result = run_returned memory board start.position (machine_of start) n;
      words = run_words memory board start.position (machine_of start) n;
      runs = h;
      carried = h.number ∙ ap verdict_number v;
      clocks = any_clocks memory board start [] k (same-verdict memory board start s ∙ v);
    }

pub restart_can_be_met : RestartCanBeMet
restart_can_be_met memory board start resets n c k v h =
    let first = any_clocks memory board start resets (c + 1) v in
    let whole = any_clocks memory board start resets (c + 1 + k) v in
    let m = first.words in
    let s = first.state in
    record {
      first = first;
      whole = whole;
      restarted =
          record {
            resets = whole.list;
            last =
                record {
                  held = whole.same c (omega arith) ∙ h.held;
                  last = λ i l. whole.same (c + 1 + i) (omega arith) ∙ h.last i l;
                };
            whole = whole.series;
            resets₁ = first.list;
            same = λ i l. first.same i (omega arith) ∙ sym (whole.same i (omega arith));
            first = first.series;
          };
      result = run_returned m board s.position (machine_of s) n;
      words = run_words m board s.position (machine_of s) n;
      runs = run-contracted m board s.position (machine_of s) n;
    }
