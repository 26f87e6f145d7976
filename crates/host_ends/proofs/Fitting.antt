-- The end of a call whose lent slices have the layout's lengths.
use Prim.Native.Nat.{ℕ}
use mathlib.Core.Path.{◌≡◌}
use mathlib.Core.Bool.{Bool, true, cond}
use mathlib.Core.List.{List}
use lib.Dec.{eqb}
use lib.ListN.{length}
use Rattle.host_calls.specs.Codes.{code_if, after_call}
use Rattle.host_ends.specs.Ends.{Ends}

module _ (written : ℕ → Bool) (formed : Bool) (f : formed ≡ true) (size due code : ℕ) (words counts lent result lent' result' : List ℕ) (number : ℕ) where
  pub ends-fitting : (eqb (length lent) size ≡ true) × (eqb (length result) due ≡ true)
      → Ends written code size words due counts lent result lent' result' number
      → (number ≡ code_if formed code) × (lent' ≡ cond (written (code_if formed code)) words lent)
      × (result' ≡ after_call (code_if formed code) counts result)
  ends-fitting h g = (rw f g.returned, rw f (rw h.0 at g.parts), rw f (rw h.1 at g.numbers))
