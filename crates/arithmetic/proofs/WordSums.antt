-- The carries of 32-bit sums and differences, as comparisons of the operands and the wrapped result find them.
use Rattle.std.proofs.Common.{◌≡◌, ℕ, ◌+◌, ◌-◌, ◌*◌, ◌%◌, ◌^◌, ◌<◌, ◌≤◌, Bool, true, false, ◌&&◌, ◌||◌, eqb, ltb, refl, arith, ltb-false, ltb-true, eqb-true}
use borrow.Author.Tests.{eqb-false}
use Rattle.arithmetic.specs.Words.{as_number}

module _ (x y low r : ℕ) (hx : x < 2 ^ 32) (hy : y < 2 ^ 32) where
  pub wrapped_sum : (c : Bool) → low ≡ (x + y) % 2 ^ 32 → r ≡ (low + as_number c) % 2 ^ 32
      → r + as_number (ltb r x || (c && eqb r x)) * 2 ^ 32 ≡ x + y + as_number c
  wrapped_sum c p q = go c (ltb r x) (eqb r x) q refl refl
    where
      go : (c l e : Bool) → r ≡ (low + as_number c) % 2 ^ 32 → ltb r x ≡ l → eqb r x ≡ e → r + as_number (l || (c && e)) * 2 ^ 32 ≡ x + y + as_number c
      go true true e q f g = let h : r < x = ltb-true r x f in omega arith
      go true false true q f g = let h : r ≡ x = eqb-true r x g in omega arith
      go true false false q f g = let h : x ≤ r = ltb-false r x f in let n : (r ≡ x → ⊥) = eqb-false r x g in omega arith
      go false true e q f g = let h : r < x = ltb-true r x f in omega arith
      go false false e q f g = let h : x ≤ r = ltb-false r x f in omega arith

  pub wrapped_difference : (c : Bool) → low ≡ (x + (2 ^ 32 - y)) % 2 ^ 32 → r ≡ (low + (2 ^ 32 - as_number c)) % 2 ^ 32
      → r + (y + as_number c) ≡ x + as_number (ltb x y || (c && eqb x y)) * 2 ^ 32
  wrapped_difference c p q = go c (ltb x y) (eqb x y) q refl refl
    where
      go : (c l e : Bool) → r ≡ (low + (2 ^ 32 - as_number c)) % 2 ^ 32 → ltb x y ≡ l → eqb x y ≡ e → r + (y + as_number c) ≡ x + as_number (l || (c && e)) * 2 ^ 32
      go true true e q f g = let h : x < y = ltb-true x y f in omega arith
      go true false true q f g = let h : x ≡ y = eqb-true x y g in omega arith
      go true false false q f g = let h : y ≤ x = ltb-false x y f in let n : (x ≡ y → ⊥) = eqb-false x y g in omega arith
      go false true e q f g = let h : x < y = ltb-true x y f in omega arith
      go false false e q f g = let h : y ≤ x = ltb-false x y f in omega arith
