-- One law for sums and one for differences, at every width: a word r and a bit d that make the equation of values true are the result and
-- the carry, and the overflow is read off the three top bits.
use Rattle.std.proofs.Common.{◌≡◌, ℕ, suc, ◌+◌, ◌-◌, ◌*◌, ◌%◌, ◌^◌, ◌<◌, ◌≤◌, Bool, true, false, not, ◌||◌, ltb, leb, ℤ, sym, refl, ap, ◌∙◌, subst, ap₂, mod-eq_of_lt, pow-suc, arith, pow_pos, le-ltb, lt-ltb, le-leb, leb-false, leb-true}
use mathlib.Core.Bool.{xor}
use native.Mathlib.Nat.{add-mul-mod_self_right}
use borrow.Author.Tests.{lt-leb}
use Rattle.arithmetic.specs.declared.AluOut.{AluOut}
use Rattle.arithmetic.specs.Words.{as_number, top_of, overflow_of, leaves}
use Rattle.arithmetic.specs.Alu.{answer, plain_of, sum_of, difference_of}
use Rattle.arithmetic.proofs.Bits.{one, three, bit_le}
use Rattle.arithmetic.proofs.Integers.{Is, weight, is_move, is-add, is-minus, is_pos, is_signed, is-leaves}

pub same_answer : (k : ℕ) {r r' : ℕ} {c c' v v' : Bool} → r ≡ r' → c ≡ c' → v ≡ v' → answer k r c v ≡ answer k r' c' v'
same_answer k p q s = λ i. answer k (p i) (q i) (s i)

-- what a top bit says
abbrev pub Top : Bool → ℕ → ℕ → Type 0
Top true h x = h ≤ x
Top false h x = x < h

top_says : (h x : ℕ) (t : Bool) → leb h x ≡ t → Top t h x
top_says h x true e = leb-true h x e
top_says h x false e = leb-false h x e

pub top-of : (k x : ℕ) → Top (top_of k x) (2 ^ k) x
top-of k x = top_says (2 ^ k) x (top_of k x) refl

-- The true value of a sum or difference, a - b, against the signed reading of its result, r - w: the two are equal, or off by m, the number
-- of words.
pub data Off (a b r w m : ℕ) : Bool → Type 0 where
  exact : a + w ≡ r + b → Off a b r w m false
  lower : a + w + m ≡ r + b → Off a b r w m true
  higher : a + w ≡ r + b + m → Off a b r w m true

-- the range of the signed readings
pub signed_range : (k r : ℕ) → r < 2 ^ suc k → (weight (top_of k r) (2 ^ suc k) ≤ r + 2 ^ k) × (r < 2 ^ k + weight (top_of k r) (2 ^ suc k))
signed_range k r hr = go (top_of k r) (top-of k r)
  where
    go : (t : Bool) → Top t (2 ^ k) r → (weight t (2 ^ suc k) ≤ r + 2 ^ k) × (r < 2 ^ k + weight t (2 ^ suc k))
    go true p = omega (arith, pow-suc 2 k)
    go false p = omega arith

-- where they are off, and only there, the true value leaves that range
off-leaves : (k r : ℕ) (v : Bool) {z : ℤ} {a b : ℕ} → Is z a b → r < 2 ^ suc k → Off a b r (weight (top_of k r) (2 ^ suc k)) (2 ^ suc k) v → leaves k z ≡ v
off-leaves k r v {z} {a} {b} i hr o = is-leaves k i ∙ go v (signed_range k r hr) o
  where
    go : (v : Bool) {w : ℕ} → (w ≤ r + 2 ^ k) × (r < 2 ^ k + w) → Off a b r w (2 ^ suc k) v → (ltb (a + 2 ^ k) b || leb (2 ^ k + b) a) ≡ v
    go v n (exact e) = ap₂ (λ (x y : Bool). x || y) (le-ltb (a + 2 ^ k) b (omega arith)) (lt-leb (2 ^ k + b) a (omega arith))
    go v n (lower e) = ap (λ (x : Bool). x || leb (2 ^ k + b) a) (lt-ltb (a + 2 ^ k) b (omega (arith, pow-suc 2 k)))
    go v n (higher e) = ap₂ (λ (x y : Bool). x || y) (le-ltb (a + 2 ^ k) b (omega (arith, pow-suc 2 k))) (le-leb (2 ^ k + b) a (omega (arith, pow-suc 2 k)))

module _ (h m x y r : ℕ) (c : Bool) (dbl : m ≡ h * 2) (hx : x < m) (hy : y < m) (hr : r < m) (hc : as_number c ≤ 1) where
  -- a sum, by the top bits and the carry out
  sum-off : (tx ty tr d : Bool) → Top tx h x → Top ty h y → Top tr h r → r + as_number d * m ≡ x + y + as_number c
      → Off (x + y + as_number c) (weight tx m + weight ty m) r (weight tr m) m (overflow_of tx ty tr)
  unfolding xor
  sum-off true true true true p q s e = exact (omega arith)
  sum-off true true true false p q s e = absurd (omega arith)
  sum-off true true false true p q s e = lower (omega arith)
  sum-off true true false false p q s e = absurd (omega arith)
  sum-off true false true true p q s e = absurd (omega arith)
  sum-off true false true false p q s e = exact (omega arith)
  sum-off true false false true p q s e = exact (omega arith)
  sum-off true false false false p q s e = absurd (omega arith)
  sum-off false true true true p q s e = absurd (omega arith)
  sum-off false true true false p q s e = exact (omega arith)
  sum-off false true false true p q s e = exact (omega arith)
  sum-off false true false false p q s e = absurd (omega arith)
  sum-off false false true true p q s e = absurd (omega arith)
  sum-off false false true false p q s e = higher (omega arith)
  sum-off false false false true p q s e = absurd (omega arith)
  sum-off false false false false p q s e = exact (omega arith)

  sum-carry : (d : Bool) → r + as_number d * m ≡ x + y + as_number c → leb m (x + y + as_number c) ≡ d
  sum-carry true e = le-leb m (x + y + as_number c) (omega arith)
  sum-carry false e = lt-leb m (x + y + as_number c) (omega arith)

  diff-carry : (d : Bool) → r + (y + as_number c) ≡ x + as_number d * m → ltb x (y + as_number c) ≡ d
  diff-carry true e = lt-ltb x (y + as_number c) (omega arith)
  diff-carry false e = le-ltb x (y + as_number c) (omega arith)

  sum-result : (d : Bool) → r + as_number d * m ≡ x + y + as_number c → (x + y + as_number c) % m ≡ r
  sum-result d e = ap (λ (n : ℕ). n % m) (sym e) ∙ add-mul-mod_self_right r (as_number d) m ∙ mod-eq_of_lt hr

  diff-result : (d : Bool) → r + (y + as_number c) ≡ x + as_number d * m → (x + m - (y + as_number c)) % m ≡ r
  diff-result true e = ap (λ (n : ℕ). n % m) (let p : x + m - (y + as_number c) ≡ r = omega arith in p) ∙ mod-eq_of_lt hr
  diff-result false e =
      ap (λ (n : ℕ). n % m) (let p : x + m - (y + as_number c) ≡ r + 1 * m = omega arith in p) ∙ add-mul-mod_self_right r 1 m ∙ mod-eq_of_lt hr

-- x less y is r where r and y make x: what the one is off to one side, the other is off to the other
turned-off : (x y r c wx wy wr m : ℕ) (v : Bool) → Off (r + y + c) (wr + wy) x wx m v → Off (x + wy) (wx + (y + c)) r wr m v
turned-off x y r c wx wy wr m v (exact e) = exact (omega arith)
turned-off x y r c wx wy wr m v (lower e) = higher (omega arith)
turned-off x y r c wx wy wr m v (higher e) = lower (omega arith)

module _ (k x y r : ℕ) (c d : Bool) (hx : x < 2 ^ suc k) (hy : y < 2 ^ suc k) (hr : r < 2 ^ suc k) where
  -- a sum and its signed reading
  pub signed-sum : r + as_number d * 2 ^ suc k ≡ x + y + as_number c
      → Off (x + y + as_number c) (weight (top_of k x) (2 ^ suc k) + weight (top_of k y) (2 ^ suc k)) r (weight (top_of k r) (2 ^ suc k)) (2 ^ suc k)
      (overflow_of (top_of k x) (top_of k y) (top_of k r))
  signed-sum = sum-off (2 ^ k) (2 ^ suc k) x y r c (pow-suc 2 k) hx hy hr (bit_le c) (top_of k x) (top_of k y) (top_of k r) d (top-of k x) (top-of k y) (top-of k r)

  -- the law of sums
  pub sum_is : r + as_number d * 2 ^ suc k ≡ x + y + as_number c
      → answer k r d (overflow_of (top_of k x) (top_of k y) (top_of k r)) ≡ sum_of k x y c
  unfolding sum_of
  sum_is e =
      sym
      (same_answer k
      (sum-result (2 ^ k) (2 ^ suc k) x y r c (pow-suc 2 k) hx hy hr (bit_le c) d e)
      (sum-carry (2 ^ k) (2 ^ suc k) x y r c (pow-suc 2 k) hx hy hr (bit_le c) d e)
      (off-leaves k r _
      (is_move {c = x + y + as_number c} {d = weight (top_of k x) (2 ^ suc k) + weight (top_of k y) (2 ^ suc k)} (is-add (is-add (is_signed k x) (is_signed k y)) (is_pos (as_number c))) (omega arith)) hr
      (signed-sum e)))

  -- a difference and its signed reading
  pub signed-difference : r + (y + as_number c) ≡ x + as_number d * 2 ^ suc k
      → Off (x + weight (top_of k y) (2 ^ suc k)) (weight (top_of k x) (2 ^ suc k) + (y + as_number c)) r (weight (top_of k r) (2 ^ suc k)) (2 ^ suc k)
      (overflow_of (top_of k r) (top_of k y) (top_of k x))
  signed-difference e =
      turned-off x y r (as_number c) _ _ _ (2 ^ suc k) _
      (sum-off (2 ^ k) (2 ^ suc k) r y x c (pow-suc 2 k) hr hy hx (bit_le c) (top_of k r) (top_of k y) (top_of k x) d (top-of k r) (top-of k y) (top-of k x) (omega arith))

  -- the law of differences
  pub difference_is : r + (y + as_number c) ≡ x + as_number d * 2 ^ suc k
      → answer k r d (overflow_of (top_of k r) (top_of k y) (top_of k x)) ≡ difference_of k x y c
  unfolding difference_of
  difference_is e =
      sym
      (same_answer k
      (diff-result (2 ^ k) (2 ^ suc k) x y r c (pow-suc 2 k) hx hy hr (bit_le c) d e)
      (diff-carry (2 ^ k) (2 ^ suc k) x y r c (pow-suc 2 k) hx hy hr (bit_le c) d e)
      (off-leaves k r _
      (is_move {c = x + weight (top_of k y) (2 ^ suc k)} {d = weight (top_of k x) (2 ^ suc k) + (y + as_number c)} (is-minus (is-minus (is_signed k x) (is_signed k y)) (is_pos (as_number c))) (omega arith)) hr
      (signed-difference e)))

-- what holds of every word and bit that make the equation true holds of the sum, and of the difference
module _ (P : AluOut → Type 0) (k x y : ℕ) (c : Bool) (hx : x < 2 ^ suc k) (hy : y < 2 ^ suc k) where
  pub sum_by : ((r : ℕ) (d : Bool) → r < 2 ^ suc k → r + as_number d * 2 ^ suc k ≡ x + y + as_number c → P (answer k r d (overflow_of (top_of k x) (top_of k y) (top_of k r))))
      → P (sum_of k x y c)
  sum_by f = go (leb (2 ^ suc k) (x + y + as_number c)) refl
    where
      with_carry : (r : ℕ) (d : Bool) → r < 2 ^ suc k → r + as_number d * 2 ^ suc k ≡ x + y + as_number c → P (sum_of k x y c)
      with_carry r d hr e = subst P (sum_is k x y r c d hx hy hr e) (f r d hr e)

      go : (t : Bool) → leb (2 ^ suc k) (x + y + as_number c) ≡ t → P (sum_of k x y c)
      go true e = let h : 2 ^ suc k ≤ x + y + as_number c = leb-true (2 ^ suc k) (x + y + as_number c) e in with_carry (x + y + as_number c - 2 ^ suc k) true (omega (arith, bit_le c)) (omega arith)
      go false e = let h : x + y + as_number c < 2 ^ suc k = leb-false (2 ^ suc k) (x + y + as_number c) e in with_carry (x + y + as_number c) false h (omega arith)

  pub difference_by : ((r : ℕ) (d : Bool) → r < 2 ^ suc k → r + (y + as_number c) ≡ x + as_number d * 2 ^ suc k → P (answer k r d (overflow_of (top_of k r) (top_of k y) (top_of k x))))
      → P (difference_of k x y c)
  difference_by f = go (leb (y + as_number c) x) refl
    where
      with_borrow : (r : ℕ) (d : Bool) → r < 2 ^ suc k → r + (y + as_number c) ≡ x + as_number d * 2 ^ suc k → P (difference_of k x y c)
      with_borrow r d hr e = subst P (difference_is k x y r c d hx hy hr e) (f r d hr e)

      go : (t : Bool) → leb (y + as_number c) x ≡ t → P (difference_of k x y c)
      go true e = let h : y + as_number c ≤ x = leb-true (y + as_number c) x e in with_borrow (x - (y + as_number c)) false (omega arith) (omega arith)
      go false e = let h : x < y + as_number c = leb-false (y + as_number c) x e in with_borrow (x + 2 ^ suc k - (y + as_number c)) true (omega arith) (omega (arith, bit_le c))

-- a difference is a sum with the complement, and the carry turned round
pub turned : (r x y q m : ℕ) (d c : Bool) → q + y + 1 ≡ m → r + as_number d * m ≡ x + q + as_number (not c) → r + (y + as_number c) ≡ x + as_number (xor d true) * m
unfolding xor
turned r x y q m true true e h = omega arith
turned r x y q m true false e h = omega arith
turned r x y q m false true e h = omega arith
turned r x y q m false false e h = omega arith

pub top_complement : (k q y : ℕ) → q + y + 1 ≡ 2 ^ suc k → top_of k q ≡ not (top_of k y)
top_complement k q y e = go (top_of k y) refl
  where
    go : (t : Bool) → top_of k y ≡ t → top_of k q ≡ not t
    go true h = let l : 2 ^ k ≤ y = leb-true (2 ^ k) y h in lt-leb (2 ^ k) q (omega (arith, pow-suc 2 k))
    go false h = let l : y < 2 ^ k = leb-false (2 ^ k) y h in le-leb (2 ^ k) q (omega (arith, pow-suc 2 k))

-- p less y is s where s and y make p
pub turned-overflow : (p y s : Bool) → overflow_of p (not y) s ≡ overflow_of s y p
unfolding xor
turned-overflow = three _ refl refl refl refl refl refl refl refl

-- nothing and x, or x and nothing, add up to x, without carry and overflow
pub none-top : (k : ℕ) → top_of k 0 ≡ false
none-top k = lt-leb (2 ^ k) 0 (pow_pos k)

pub none-and : (k x : ℕ) → x < 2 ^ suc k → sum_of k 0 x false ≡ plain_of k x
unfolding xor
none-and k x h =
    sym (sum_is k 0 x x false false (pow_pos (suc k)) h h (omega arith))
    ∙ same_answer k refl refl (ap (λ (t : Bool). overflow_of t (top_of k x) (top_of k x)) (none-top k) ∙ one (λ t. overflow_of false t t ≡ false) refl refl (top_of k x))

pub and_none : (k x : ℕ) → x < 2 ^ suc k → sum_of k x 0 false ≡ plain_of k x
unfolding xor
and_none k x h =
    sym (sum_is k x 0 x false false h (pow_pos (suc k)) h (omega arith))
    ∙ same_answer k refl refl (ap (λ (t : Bool). overflow_of (top_of k x) t (top_of k x)) (none-top k) ∙ one (λ t. overflow_of t false t ≡ false) refl refl (top_of k x))
