use mathlib.Core.Path.{◌≡◌, refl, ap, ap₂, ◌∙◌}
use mathlib.Core.List.{List, ◌++◌}
use Prim.Native.Nat.{ℕ}
use lib.ListN.{length}
use borrow.Author.Tests.{eq-eqb}
use Rattle.model.specs.declared.Machine.{Machine}
use Rattle.host_reading.specs.Layout.{machine_size, state_size}
use Rattle.host_words.specs.Words.{machine_words}
use Rattle.host_words.proofs.Copies.{parts-copied}
use Rattle.host_words.proofs.put_state.Goals as goal

machine-words-long : (m : Machine) → length (machine_words m) ≡ machine_size
unfolding machine_words
machine-words-long m = refl

pub returns-then-state-eq-STATE_SIZE : goal.returns-then-state-eq-STATE_SIZE
returns-then-state-eq-STATE_SIZE c =
    let lent : List ℕ = c.args.state.now in
    let first = c.copy_from_slice.ensures.after ∙ c.machine_words.ensures in
    let second = c.copy_from_slice-then-state-eq-STATE_SIZE.ensures.after ∙ c.latch_words.ensures in
    rw (eq-eqb (length lent) state_size c.if-state-eq-STATE_SIZE.true)
    (parts-copied 12 lent _ _ (ap length first ∙ machine-words-long _) ∙ ap₂ (λ (a b : List ℕ). a ++ b) first second)
