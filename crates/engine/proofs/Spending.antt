-- Where a run begins in the wait list. The waits of several accesses, one access more at a time, and of an empty list.
use Prim.Native.Nat.{ℕ, ◌+◌, ◌≤◌}
use mathlib.Core.Path.{◌≡◌, refl, sym, ap, ◌∙◌}
use mathlib.Core.Bool.{Bool, true, false, cond, ◌&&◌}
use mathlib.Core.List.{List}
use native.Mathlib.Nat.{add-zero}
use native.Mathlib.Omega.{arith}
use lib.ListN.{length}
use Rattle.arithmetic.specs.Words.{as_number}
use Rattle.model.specs.declared.Operand.{Operand}
use Rattle.model.specs.Operands.{in_memory}
use Rattle.model.specs.Waits.{position_fits, wait_sum, position_after}
use Rattle.model.specs.Interpreter.{cost_of}
use Rattle.model.proofs.Waits.{sum-add, position-add, first_fits, fits-past, no-waits, position-stays}
use Rattle.engine.specs.declared.clocks.Spent.{Spent}
use Rattle.engine.specs.Clocks.{begins_at, more_of, walked_of, spent_of}

spent_eq : {c d p q : ℕ} → c ≡ d → p ≡ q → ◌≡◌ {A = Spent} (record { clocks = c; position = p }) (record { clocks = d; position = q })
spent_eq e f = rw (e, f)

module _ (waits : List ℕ) (from : ℕ) where
  -- where a run begins fits, and is what was given where that fits
  pub begin-fits : {position : ℕ} → position ≡ begins_at waits from → position_fits waits position ≡ true
  begin-fits {position} = go (position_fits waits from) refl
    where
      go : (t : Bool) → position_fits waits from ≡ t → position ≡ cond t from 0 → position_fits waits position ≡ true
      go true p e = ap (position_fits waits) e ∙ p
      go false p e = ap (position_fits waits) e ∙ first_fits waits

  pub begins-there : position_fits waits from ≡ true → begins_at waits from ≡ from
  begins-there e = rw e

module _ (waits : List ℕ) where
  -- ---- several

  walked_none : (c p : ℕ) → record { clocks = c; position = p } ≡ walked_of waits c p 0
  unfolding wait_sum position_after
  walked_none c p = spent_eq {p = p} (sym (add-zero c)) refl

  -- one more than n, and one more than n where a truth says so
  walked_more : (c p n : ℕ) {w v : Spent} → v ≡ walked_of waits c p n → w ≡ more_of waits v → w ≡ walked_of waits c p (n + 1)
  unfolding wait_sum position_after
  walked_more c p n e f = f ∙ ap (more_of waits) e ∙ spent_eq (omega (arith, sum-add waits n 1 p)) (sym (position-add waits n 1 p))

  walked-first : (c p : ℕ) {w : Spent} → w ≡ more_of waits (record { clocks = c; position = p }) → w ≡ walked_of waits c p 1
  walked-first c p f = walked_more c p 0 (walked_none c p) f

  walked-if : (c p n : ℕ) {w v : Spent} (t : Bool) → v ≡ walked_of waits c p n → w ≡ cond t (more_of waits v) v → w ≡ walked_of waits c p (n + as_number t)
  walked-if c p n true e f = walked_more c p n e f
  walked-if c p n false e f = rw (add-zero n) (f ∙ e)

  -- an instruction's accesses, in the order fetch, A, B, store to memory
  pub clocked-walks : (w : Spent) (oa ob : Operand) (stored : Bool) {a b : Bool} {x : ℕ} {f g h r : Spent}
      → a ≡ in_memory oa → b ≡ in_memory ob → x ≡ cost_of a b stored
      → f ≡ more_of waits (record { clocks = w.clocks + x; position = w.position })
      → g ≡ cond a (more_of waits f) f → h ≡ cond b (more_of waits g) g → r ≡ cond (stored && b) (more_of waits h) h
      → r ≡ spent_of waits w oa ob stored
  clocked-walks w oa ob stored {a} {b} {x} p q e first with-a with-b last =
      let c = w.clocks + x in
      walked-if c w.position (1 + as_number a + as_number b) (stored && b)
      (walked-if c w.position (1 + as_number a) b (walked-if c w.position 1 a (walked-first c w.position first) with-a) with-b)
      last
      ∙ rw (e, p, q)

  -- ---- an empty list

  walked_empty : length waits ≡ 0 → (c n : ℕ) → record { clocks = c; position = 0 } ≡ walked_of waits c 0 n
  walked_empty none c n = spent_eq (omega (arith, no-waits waits none 0 n)) (sym (position-stays waits none n))

  pub clocked-empty : (w : Spent) → length waits ≤ w.position → position_fits waits w.position ≡ true → (oa ob : Operand) (stored : Bool) {a b : Bool} {x : ℕ}
      → a ≡ in_memory oa → b ≡ in_memory ob → x ≡ cost_of a b stored → record { clocks = w.clocks + x; position = w.position } ≡ spent_of waits w oa ob stored
  clocked-empty w past h oa ob stored p q e =
      let first = fits-past waits w.position h past in
      rw (e, p, q, first) (walked_empty (omega arith) _ _)
