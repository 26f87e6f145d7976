-- One of two, by a truth; every number, case by case; the numbers from one on, and those up to one.
use Prim.Native.Nat.{ℕ, zero, suc, ◌+◌, ◌-◌, ◌≤◌, ◌<◌}
use mathlib.Core.Path.{◌≡◌, ap, subst, ◌∙◌}
use mathlib.Core.Bool.{Bool, true, false, cond}
use native.Mathlib.Nat.{zero-add, suc-add}
use native.Mathlib.Decide.{dec_lt}
use native.Mathlib.Omega.{arith}

module _ {A : Type 0} where
  -- what holds of both
  pub pick : (P : A → Type 0) (b : Bool) {x y : A} → P x → P y → P (cond b x y)
  pick P true p q = p
  pick P false p q = q

  pub cond-true : {t : Bool} (x y : A) → t ≡ true → x ≡ cond t x y
  cond-true x y e = rw e

  pub cond-false : {t : Bool} (x y : A) → t ≡ false → y ≡ cond t x y
  cond-false x y e = rw e

  -- what is true of the first, and of the second as the choice is, tells the choice
  pub tells : (f : A → Bool) (t : Bool) {x y z : A} → f x ≡ true → f y ≡ t → z ≡ cond t x y → f z ≡ t
  tells f true p q e = ap f e ∙ p
  tells f false p q e = ap f e ∙ q

-- what holds of every number: of 0, then of the numbers after it; so a law on a table is the list of its rows, and last what is past it
pub record Each (P : ℕ → Type 0) : Type 0 where
  pub at : (n : ℕ) → P n

pub past : {P : ℕ → Type 0} → ((n : ℕ) → P n) → Each P
past p = record { at = p }

infixr 20 ◌▸◌
pub ◌▸◌ : {P : ℕ → Type 0} → P 0 → Each (λ n. P (suc n)) → Each P
◌▸◌ {P} p ps = record { at = go }
  where
    go : (n : ℕ) → P n
    go zero = p
    go (suc n) = ps.at n

-- what each number from i on hands to the next
pub onward : (P : ℕ → Type 0) {i n : ℕ} → i ≤ n → P i → ((k : ℕ) → i ≤ k → P k → P (suc k)) → P n
onward P {i} {n} h p next = subst P (omega arith) (go (n - i))
  where
    go : (d : ℕ) → P (d + i)
    go zero = rw zero-add p
    go (suc d) = rw suc-add (next (d + i) (omega arith) (go d))

-- what holds of the numbers below k, and of k
pub up_to : (P : ℕ → Type 0) {k : ℕ} → ((i : ℕ) → i < k → P i) → P k → (i : ℕ) → i < suc k → P i
up_to P {k} h p i l = go (dec_lt i k)
  where
    go : Dec (i < k) → P i
    go (yes q) = h i q
    go (no n) = subst P (omega arith) p
