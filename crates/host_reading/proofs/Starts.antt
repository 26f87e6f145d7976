-- A gate state put together from its parts, and what a call starts from where what is lent has its lengths.
use Rattle.std.proofs.Common.{ℕ, ◌≡◌, Bool, true, false, cond, List, length, Option, Some, None, refl}
use Rattle.model.specs.declared.Machine.{Machine}
use Rattle.model.specs.declared.GateState.{GateState}
use Rattle.model.specs.Words.{word_at}
use Rattle.host_reading.specs.Layout.{one_place, machine_size, machine_in, state_size, row_in, left_in, state_around, state_in, lent_formed, machine_lent, state_lent}

pub state-from : (words : List ℕ) (m : Machine) → m ≡ machine_in words → (row : ℕ) → row ≡ row_in (word_at words 12) (word_at words 20)
    → (left : ℕ) → left ≡ left_in (word_at words 20) → state_around words m row left ≡ state_in words
unfolding state_in
state-from words m e row f left g = rw (e, f, g)

-- what a value that is there only under a test tells of the test, and of the value
none_untested : {A : Type 0} (b : Bool) (x : A) → None ≡ cond b (Some x) None → b ≡ false
none_untested true x e = cc
none_untested false x e = refl

some_tested : {A : Type 0} (b : Bool) (x y : A) → Some y ≡ cond b (Some x) None → (b ≡ true) × (y ≡ x)
some_tested true x y e = (refl, cc)
some_tested false x y e = (cc, cc)

-- a call that is turned down, and one that goes on, with what it goes on from
module _ (words : List ℕ) (places due : ℕ) where
  pub machine-misfits : None ≡ machine_lent words places due → lent_formed machine_size due (length words) places ≡ false
  unfolding machine_lent
  machine-misfits e = none_untested _ _ e

  pub machine-starts : {m : Machine} → Some m ≡ machine_lent words places due → (lent_formed machine_size due (length words) places ≡ true) × (m ≡ machine_in words)
  unfolding machine_lent
  machine-starts e = some_tested _ _ _ e

module _ (words : List ℕ) (places : ℕ) where
  pub state-misfits : None ≡ state_lent words places → lent_formed state_size one_place (length words) places ≡ false
  unfolding state_lent
  state-misfits e = none_untested _ _ e

  pub state-starts : {s : GateState} → Some s ≡ state_lent words places → (lent_formed state_size one_place (length words) places ≡ true) × (s ≡ state_in words)
  unfolding state_lent
  state-starts e = some_tested _ _ _ e
