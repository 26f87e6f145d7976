-- A list rises where each number and the next do.
use Prim.Native.Nat.{ℕ, zero, suc, ◌<◌}
use mathlib.Core.Path.{◌≡◌, refl, sym}
use mathlib.Core.Bool.{Bool, true, false, ◌&&◌}
use mathlib.Core.List.{List, [], ◌∷◌}
use native.Mathlib.Numerals.{add-one}
use native.Mathlib.Omega.{arith}
use lib.Dec.{ltb}
use lib.ListN.{length, get_or}
use Rattle.std.specs.List.{IsAllAdjacentAnswer}
use Rattle.model.specs.Resets.{rises}

all-rise : (l : List ℕ) → ((k : ℕ) → suc k < length l → true ≡ ltb (get_or l k 0) (get_or l (suc k) 0)) → true ≡ rises l
all-rise [] h = refl
all-rise (m ∷ []) h = refl
all-rise (m ∷ n ∷ ns) h = rw (sym (h 0 (omega arith))) (all-rise (n ∷ ns) (λ k less. h (suc k) (omega arith)))

one-falls : (l : List ℕ) (k : ℕ) → suc k < length l → false ≡ ltb (get_or l k 0) (get_or l (suc k) 0) → false ≡ rises l
one-falls [] k less e = absurd (omega arith)
one-falls (m ∷ []) k less e = absurd (omega arith)
one-falls (m ∷ n ∷ ns) zero less e = rw (sym e)
one-falls (m ∷ n ∷ ns) (suc k) less e = go (ltb m n) (one-falls (n ∷ ns) k (omega arith) e)
  where
    go : (t : Bool) → false ≡ rises (n ∷ ns) → false ≡ t && rises (n ∷ ns)
    go true f = f
    go false f = refl

pub rise-as-neighbours : (l : List ℕ) (answer : Bool) → IsAllAdjacentAnswer (λ m n b. b ≡ ltb m n) l answer → answer ≡ rises l
rise-as-neighbours l true h = all-rise l (λ k less. rw add-one at (h k 0 (omega arith)))
rise-as-neighbours l false h = one-falls l h.0 (omega (arith, h.1)) (rw add-one at (h.2 0))
