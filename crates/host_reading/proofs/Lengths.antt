-- What is lent has the layout's lengths: the tests that hold, and that the words can be read.
use Prim.Native.Nat.{ℕ, ◌≤◌}
use mathlib.Core.Path.{◌≡◌, sym}
use mathlib.Core.Bool.{true, and-eq-true_iff}
use native.Mathlib.Nat.{le_of_eq}
use lib.Dec.{eqb}
use borrow.Author.Tests.{eqb-true}
use Rattle.host_reading.specs.Layout.{lent_formed}

module _ (size due words places : ℕ) (f : lent_formed size due words places ≡ true) where
  pub lent-tests : (eqb words size ≡ true) × (eqb places due ≡ true)
  unfolding lent_formed
  lent-tests = (and-eq-true_iff (eqb words size) (eqb places due)).0 f

  pub lent-readable : size ≤ words
  lent-readable = le_of_eq (sym (eqb-true _ _ lent-tests.0))
