-- A list with values stored from a place on (`sets`), part by part, and laid over its front.
use Prim.Native.Nat.{ℕ, suc, ◌+◌, ◌≤◌}
use mathlib.Core.Path.{◌≡◌, refl, sym, ap, ap₂, ◌∙◌}
use mathlib.Core.List.{List, [], ◌∷◌, ◌++◌, append-nil}
use native.Mathlib.Nat.{add-zero, zero-add}
use native.Mathlib.Omega.{arith}
use lib.ListN.{length, set, drop, length-set}
use lib.Seq.{sets, sets-eq, set_out, set_comm, drop-length}
use Rattle.model.specs.Words.{overlay}

-- values stored one after the other are stored together
pub sets-append : {A : Type 0} (list : List A) (at : ℕ) (a b : List A) → sets (sets list at a) (at + length a) b ≡ sets list at (a ++ b)
sets-append list at [] b = ap (λ (n : ℕ). sets list n b) (add-zero at)
sets-append list at (x ∷ a) b =
    let e : at + suc (length a) ≡ suc at + length a = omega arith in
    ap (λ (n : ℕ). sets (sets (set list at x) (suc at) a) n b) e ∙ sets-append (set list at x) (suc at) a b

-- none past the list's end
pub sets-out : (list : List ℕ) (at : ℕ) (values : List ℕ) → length list ≤ at → sets list at values ≡ list
sets-out list at [] h = refl
sets-out list at (x ∷ values) h = sets-out (set list at x) (suc at) values (simp length-set (omega arith)) ∙ set_out list at x h

-- a value further on may be stored first
set_first : (list : List ℕ) (at : ℕ) (values : List ℕ) (i x : ℕ) → at + length values ≤ i → sets (set list i x) at values ≡ set (sets list at values) i x
set_first list at [] i x h = refl
set_first list at (y ∷ values) i x h =
    ap (λ (l : List ℕ). sets l (suc at) values) (set_comm list i at x y (λ e. omega arith))
    ∙ set_first (set list at y) (suc at) values i x (omega arith)

-- the last value may be stored first
pub last-first : (list : List ℕ) (at : ℕ) (values : List ℕ) (x : ℕ) → sets (set list (at + length values) x) at values ≡ sets list at (values ++ x ∷ [])
last-first list at values x = set_first list at values (at + length values) x (omega arith) ∙ sets-append list at values (x ∷ [])

-- what is still to be stored, after a part of it was
pub store_step : (list list' : List ℕ) (at at' : ℕ) (a b whole : List ℕ) → list' ≡ sets list at a → at' ≡ at + length a
    → sets list at (a ++ b) ≡ whole → sets list' at' b ≡ whole
store_step list list' at at' a b whole p q e = ap₂ (λ (o : List ℕ) (n : ℕ). sets o n b) p q ∙ sets-append list at a b ∙ e

pub store-end : (list : List ℕ) (at : ℕ) (b whole : List ℕ) → b ≡ [] → sets list at b ≡ whole → list ≡ whole
store-end list at b whole p e = ap (sets list at) (sym p) ∙ e

-- values stored from the front on are laid over it
pub overlaid : (list values : List ℕ) → length values ≤ length list → sets list 0 values ≡ overlay values list
overlaid list values h = sets-eq values list 0 (rw zero-add h) ∙ ap (λ (n : ℕ). values ++ drop n list) (zero-add (length values))

-- as many values as the list has replace it
pub all_set : {A : Type 0} (list values : List A) → length list ≡ length values → sets list 0 values ≡ values
all_set list values e =
    sets-eq values list 0 (omega arith)
    ∙ ap (λ n. values ++ drop n list) (zero-add (length values) ∙ sym e)
    ∙ ap (λ l. values ++ l) (drop-length list)
    ∙ append-nil values
