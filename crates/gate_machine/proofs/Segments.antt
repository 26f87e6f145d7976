-- Laws for a run with resets: the clocks up to the next one are a run without, and then comes the reset or the run's end.
use Rattle.std.specs.Prelude.{Ok}
use Prim.Native.Nat.{ℕ, ◌+◌, ◌-◌, ◌≤◌, ◌<◌}
use mathlib.Core.Path.{◌≡◌, refl, sym, ap, ◌∙◌}
use mathlib.Core.Bool.{Bool, true, false, cond}
use mathlib.Core.List.{List, []}
use native.Mathlib.Numerals.{add-one}
use native.Mathlib.Omega.{arith}
use lib.Dec.{ltb}
use lib.ListN.{length, get_or}
use borrow.Author.Tests.{ltb-true, ltb-false}
use Rattle.model.specs.declared.GateState.{GateState}
use Rattle.model.specs.Board.{Board}
use Rattle.model.specs.Resets.{is_reset}
use Rattle.model.specs.GateMachine.{Gate, gate, on_state, reset_state, gate_run}
use Rattle.model.specs.Refusals.{gate_verdict}
use Rattle.model.specs.Agreement.{gate_from}
use Rattle.model.specs.Continuations.{gate_sum}
use Rattle.model.proofs.Resets.{Due, due-begins, due-none, due-not-yet, due-later, due-now, due-next}
use Rattle.model.proofs.Counts.{plain-on, reset-on, going_on}
use Rattle.model.proofs.Progress.{finished-slow}
use Rattle.model.proofs.Valid.{resets-rise, next-accepted}
use Rattle.gate_machine.specs.Resets.{next_reset}
use Rattle.gate_machine.proofs.Turns.{finished-le}

-- ---- the next reset

-- the latest clock that is not past the run's end nor the reset at place j, and before the end it is that reset
record Next (resets : List ℕ) (j clocks until : ℕ) : Type 0 where
  pub to : until ≤ clocks
  pub late : j < length resets → until ≤ get_or resets j 0
  pub latest : (i : ℕ) → i ≤ clocks → (j < length resets → i ≤ get_or resets j 0) → i ≤ until
  pub reset : until < clocks → (j < length resets) × (get_or resets j 0 ≡ until)

next_of : (resets : List ℕ) (j clocks : ℕ) {until : ℕ} → until ≡ next_reset resets j clocks → Next resets j clocks until
next_of resets j clocks {until} = go (ltb j (length resets)) refl (ltb number clocks) refl
  where
    number : ℕ
    number = get_or resets j 0

    go : (t : Bool) → ltb j (length resets) ≡ t → (u : Bool) → ltb number clocks ≡ u → until ≡ cond t (cond u number clocks) clocks → Next resets j clocks until
    go true p true q e =
        let more = ltb-true j (length resets) p in
        let low = ltb-true number clocks q in
        record { to = omega arith; late = λ _. omega arith; latest = λ i h k. omega (arith, k more); reset = λ _. (more, omega arith) }
    go true p false q e =
        let high = ltb-false number clocks q in
        record { to = omega arith; late = λ _. omega arith; latest = λ i h k. omega arith; reset = λ h. absurd (omega arith) }
    go false p u q e =
        let none = ltb-false j (length resets) p in
        record { to = omega arith; late = λ more. absurd (omega arith); latest = λ i h k. omega arith; reset = λ h. absurd (omega arith) }

-- before the run's end it is one of the list
pub is-listed : (resets : List ℕ) (j clocks : ℕ) {until : ℕ} → until ≡ next_reset resets j clocks → until < clocks → j < length resets
is-listed resets j clocks u low = ((next_of resets j clocks u).reset low).0

-- ---- one turn of the loop

module _ (board : Board) (resets : List ℕ) (start : GateState) (memory₀ : List ℕ) where
  abbrev g₀ : Gate
  g₀ = gate_from start memory₀

  -- after i clocks, with the resets before place j done
  pub record At (clocks : ℕ) (state : GateState) (memory : List ℕ) (finished i j : ℕ) : Type 0 where
    pub run : gate state memory finished ≡ gate_run board resets i g₀
    pub due : Due resets i j
    pub below : i ≤ clocks
    pub words : length memory ≡ length memory₀

  module _ (v : gate_verdict memory₀ board resets start ≡ Ok tt) where
    pub begins : (clocks : ℕ) → At clocks start memory₀ 0 0 0
    unfolding gate_run
    begins clocks = record { run = refl; due = due-begins resets (resets-rise memory₀ board resets start v); below = omega arith; words = refl }

    module _ {clocks : ℕ} {state : GateState} {memory : List ℕ} {finished i j : ℕ} (a : At clocks state memory finished i j) where
      -- the loop over the clocks takes the state
      pub taken : gate_verdict memory board [] state ≡ Ok tt
      taken = next-accepted memory₀ board resets start v [] refl i a.run

      -- no clock finishes more than one instruction
      pub few : (c : ℕ) {s : GateState} {m : List ℕ} {f : ℕ} → gate s m f ≡ gate_run board [] c (gate_from state memory) → finished + f ≤ i + c
      few c e = omega (arith, ap (λ (g : Gate). g.finished) a.run, finished-slow board resets i g₀, finished-le board memory c state e)

      module _ {until : ℕ} (u : until ≡ next_reset resets j clocks) where
        next : Next resets j clocks until
        next = next_of resets j clocks u

        pub bounds : (i ≤ until) × (until ≤ clocks)
        bounds = (next.latest i a.below a.due.ahead, next.to)

        -- up to it there is none
        quiet : (c : ℕ) → i ≤ c → c < until → is_reset resets c ≡ false
        quiet c l h = go (ltb j (length resets)) refl
          where
            go : (t : Bool) → ltb j (length resets) ≡ t → is_reset resets c ≡ false
            go true p = let more = ltb-true j (length resets) p in due-not-yet resets i j a.due more c l (omega (arith, next.late more))
            go false p = due-none resets i j a.due (ltb-false j (length resets) p) c l

        -- the clocks up to it are a run without resets
        module _ {s : GateState} {m : List ℕ} {f : ℕ} (e : gate s m f ≡ gate_run board [] (until - i) (gate_from state memory)) where
          comes : gate s m (finished + f) ≡ gate_run board resets until g₀
          comes =
              let upto : i + (until - i) ≡ until = omega (arith, bounds.0) in
              ap (gate_sum (gate state memory finished)) e
              ∙ sym (going_on board [] (until - i) (gate state memory finished))
              ∙ ap (gate_run board [] (until - i)) a.run
              ∙ sym (plain-on board resets i (until - i) g₀ (λ c l. quiet (i + c) (omega arith) (omega arith)))
              ∙ ap (λ (k : ℕ). gate_run board resets k g₀) upto

          pub reset-turn : until < clocks → length m ≡ length memory → {t : GateState} → t ≡ reset_state s
              → At clocks t m (finished + f) (until + 1) (j + 1)
          reset-turn low w {t} p =
              let d = due-later resets i j a.due until bounds.0 next.late in
              let more = (next.reset low).0 in
              let is = (next.reset low).1 in
              record {
                run =
                    (λ x. gate (p x) m (finished + f))
                    ∙ ap (on_state (λ memory. reset_state)) comes
                    ∙ sym (reset-on board resets until g₀ (due-now resets until j d more is));
                due = rw (add-one until, add-one j) (due-next resets until j d more is);
                below = omega arith;
                words = w ∙ a.words;
              }

          pub ends : clocks ≤ until → gate s m (finished + f) ≡ gate_run board resets clocks g₀
          ends all =
              let is : until ≡ clocks = omega (arith, bounds.1) in
              comes ∙ ap (λ (k : ℕ). gate_run board resets k g₀) is
