-- A store kept: passed by without a journal, and where its address has a mark.
use Prim.Native.Nat.{ℕ}
use mathlib.Core.Path.{◌≡◌, refl, sym, ◌∙◌}
use mathlib.Core.Bool.{Bool, true, false, not, ◌||◌, true≢false}
use mathlib.Core.List.{List}
use lib.Dec.{eqb}
use lib.ListN.{length}
use Rattle.marks.specs.Marks.{has_mark, known, noting_at}
use Rattle.marks.proofs.Marking.{known-marked}
use Rattle.step.specs.Keeping.{Keeps}

either : (a b c : Bool) → (a || b) ≡ true → (a || (b || c)) ≡ true
either true b c e = refl
either false true c e = refl
either false false c e = absurd (true≢false (sym e))

neither : (a b c : Bool) → (a || b) ≡ false → (a || (b || c)) ≡ c
neither true b c e = absurd (true≢false e)
neither false true c e = absurd (true≢false e)
neither false false c e = refl

module _ (memory journal map : List ℕ) (pairs : ℕ) (stored : Bool) (address former : ℕ) where
  pub keeps-none : (not stored || eqb (length map) 0) ≡ true → Keeps memory journal map pairs stored address former memory journal map (noting_at false pairs)
  keeps-none e =
      let t = either (not stored) (eqb (length map) 0) (known map journal pairs address) e in
      record { result = rw t; words = rw t; places = rw t; marks = rw t }

  -- its address has a mark, so that it has a pair
  pub keeps-marked : (not stored || eqb (length map) 0) ≡ false → has_mark map address ≡ true
      → Keeps memory journal map pairs stored address former memory journal map (noting_at false pairs)
  keeps-marked e m =
      let t = neither (not stored) (eqb (length map) 0) (known map journal pairs address) e ∙ known-marked map journal pairs address m in
      record { result = rw t; words = rw t; places = rw t; marks = rw t }
