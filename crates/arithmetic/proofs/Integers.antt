-- Integers as differences of two naturals: `Is z a b` says that z is a - b. Sums, differences and the tests of order go over to naturals,
-- where omega reads them.
use Rattle.std.proofs.Common.{◌≡◌, ℕ, zero, suc, ◌+◌, ◌-◌, ◌^◌, ◌<◌, ◌≤◌, Bool, true, false, cond, ◌||◌, T, ltb, leb, ℤ, pos, negsuc, ◌+ℤ◌, ◌-ℤ◌, neg_ℤ, ◌≤ℤ◌, ◌<ℤ◌, sym, refl, ap, ◌∙◌, ap₂, arith, le→leb, lt→ltb, ltb-false, ltb-true, le-ltb, lt-ltb, le-leb, leb-false, leb-true}
use lib.IntN.{sub_ℕ}
use lib.Signed.{lt_z, le_z, le_z_yes, lt_z_yes}
use borrow.Author.Tests.{lt-leb}
use Rattle.arithmetic.specs.Words.{signed_of, leaves}

abbrev Diff : ℤ → ℕ → ℕ → Type 0
Diff (pos n) a b = a ≡ n + b
Diff (negsuc n) a b = b ≡ suc n + a

-- the same as a record, so that the three can be inferred
pub record Is (z : ℤ) (a b : ℕ) : Type 0 where
  diff : Diff z a b

-- two tests with the same meaning
pub same-leb : (a b c d : ℕ) → (a ≤ b → c ≤ d) → (b < a → d < c) → leb a b ≡ leb c d
same-leb a b c d f g = go (leb a b) refl
  where
    go : (t : Bool) → leb a b ≡ t → leb a b ≡ leb c d
    go true e = e ∙ sym (le-leb c d (f (leb-true a b e)))
    go false e = e ∙ sym (lt-leb c d (g (leb-false a b e)))

d_move : (z : ℤ) (a b c d : ℕ) → Diff z a b → a + d ≡ c + b → Diff z c d
d_move (pos n) a b c d h e = omega arith
d_move (negsuc n) a b c d h e = omega arith

d_pos : (n : ℕ) → Diff (pos n) n 0
d_pos n = omega arith

d_sub : (a b : ℕ) → Diff (sub_ℕ a b) a b
d_sub a b = go (ltb a b) refl
  where
    go : (t : Bool) → ltb a b ≡ t → Diff (cond t (negsuc (b - suc a)) (pos (a - b))) a b
    go true e = let h : a < b = ltb-true a b e in omega arith
    go false e = let h : b ≤ a = ltb-false a b e in omega arith

d_add : (z y : ℤ) (a b c d : ℕ) → Diff z a b → Diff y c d → Diff (z +ℤ y) (a + c) (b + d)
d_add (pos m) (pos n) a b c d h l = omega arith
d_add (pos m) (negsuc n) a b c d h l = d_move (sub_ℕ m (suc n)) m (suc n) (a + c) (b + d) (d_sub m (suc n)) (omega arith)
d_add (negsuc m) (pos n) a b c d h l = d_move (sub_ℕ n (suc m)) n (suc m) (a + c) (b + d) (d_sub n (suc m)) (omega arith)
d_add (negsuc m) (negsuc n) a b c d h l = omega arith

d_neg : (z : ℤ) (a b : ℕ) → Diff z a b → Diff (neg_ℤ z) b a
d_neg (pos zero) a b h = omega arith
d_neg (pos (suc n)) a b h = omega arith
d_neg (negsuc n) a b h = omega arith

d_minus : (z y : ℤ) (a b c d : ℕ) → Diff z a b → Diff y c d → Diff (z -ℤ y) (a + d) (b + c)
d_minus z y a b c d h l = d_add z (neg_ℤ y) a b d c h (d_neg y c d l)

-- two integers against each other
d_same : (z y : ℤ) (a b c d : ℕ) → Diff z a b → Diff y c d → a + d ≡ c + b → z ≡ y
d_same (pos m) (pos n) a b c d h l e = ap pos (omega arith)
d_same (pos m) (negsuc n) a b c d h l e = absurd (omega arith)
d_same (negsuc m) (pos n) a b c d h l e = absurd (omega arith)
d_same (negsuc m) (negsuc n) a b c d h l e = ap negsuc (omega arith)

d_le : (z y : ℤ) (a b c d : ℕ) → Diff z a b → Diff y c d → a + d ≤ c + b → T (le_z z y)
d_le (pos m) (pos n) a b c d h l e = le→leb m n (omega arith)
d_le (pos m) (negsuc n) a b c d h l e = absurd (omega arith)
d_le (negsuc m) (pos n) a b c d h l e = tt
d_le (negsuc m) (negsuc n) a b c d h l e = le→leb n m (omega arith)

d_lt : (z y : ℤ) (a b c d : ℕ) → Diff z a b → Diff y c d → a + d < c + b → T (lt_z z y)
d_lt (pos m) (pos n) a b c d h l e = lt→ltb m n (omega arith)
d_lt (pos m) (negsuc n) a b c d h l e = absurd (omega arith)
d_lt (negsuc m) (pos n) a b c d h l e = tt
d_lt (negsuc m) (negsuc n) a b c d h l e = lt→ltb n m (omega arith)

-- at or above h, and below -h
d_high : (z : ℤ) (a b h : ℕ) → Diff z a b → le_z (pos h) z ≡ leb (h + b) a
d_high (pos n) a b h e = same-leb h n (h + b) a (λ l. omega arith) (λ l. omega arith)
d_high (negsuc n) a b h e = sym (lt-leb (h + b) a (omega arith))

d_low : (z : ℤ) (a b h : ℕ) → Diff z a b → lt_z z (neg_ℤ (pos h)) ≡ ltb (a + h) b
d_low (pos n) a b zero e = same-leb (suc n) 0 (suc (a + 0)) b (λ l. omega arith) (λ l. omega arith)
d_low (pos n) a b (suc h) e = sym (le-ltb (a + suc h) b (omega arith))
d_low (negsuc n) a b zero e = sym (lt-ltb (a + 0) b (omega arith))
d_low (negsuc n) a b (suc h) e = same-leb (suc h) n (suc (a + suc h)) b (λ l. omega arith) (λ l. omega arith)

-- the range test over naturals
d_leaves : (k : ℕ) (z : ℤ) (a b : ℕ) → Diff z a b → leaves k z ≡ (ltb (a + 2 ^ k) b || leb (2 ^ k + b) a)
unfolding leaves
d_leaves k z a b e = ap₂ (λ (x y : Bool). x || y) (d_low z a b (2 ^ k) e) (d_high z a b (2 ^ k) e)

-- what the signed reading takes away
abbrev pub weight : Bool → ℕ → ℕ
weight true m = m
weight false m = 0

d_signed : (k x : ℕ) → Diff (signed_of k x) x (weight (leb (2 ^ k) x) (2 ^ suc k))
unfolding signed_of
d_signed k x = go (ltb x (2 ^ k)) (leb (2 ^ k) x) refl refl
  where
    high : Diff (pos x -ℤ pos (2 ^ suc k)) x (2 ^ suc k)
    high = d_move (pos x -ℤ pos (2 ^ suc k)) (x + 0) (0 + 2 ^ suc k) x (2 ^ suc k) (d_minus (pos x) (pos (2 ^ suc k)) x 0 (2 ^ suc k) 0 (d_pos x) (d_pos (2 ^ suc k))) (omega arith)

    go : (s t : Bool) → ltb x (2 ^ k) ≡ s → leb (2 ^ k) x ≡ t → Diff (cond s (pos x) (pos x -ℤ pos (2 ^ suc k))) x (weight t (2 ^ suc k))
    go true true e f = absurd (let h : x < 2 ^ k = ltb-true x (2 ^ k) e in let l : 2 ^ k ≤ x = leb-true (2 ^ k) x f in omega arith)
    go true false e f = d_pos x
    go false true e f = high
    go false false e f = absurd (let h : 2 ^ k ≤ x = ltb-false x (2 ^ k) e in let l : x < 2 ^ k = leb-false (2 ^ k) x f in omega arith)

-- the laws on the record
pub is_pos : (n : ℕ) → Is (pos n) n 0
is_pos n = record { diff = d_pos n }

pub is_move : {z : ℤ} {a b c d : ℕ} → Is z a b → a + d ≡ c + b → Is z c d
is_move {z} {a} {b} {c} {d} h e = record { diff = d_move z a b c d h.diff e }

pub is-add : {z y : ℤ} {a b c d : ℕ} → Is z a b → Is y c d → Is (z +ℤ y) (a + c) (b + d)
is-add {z} {y} {a} {b} {c} {d} h l = record { diff = d_add z y a b c d h.diff l.diff }

pub is-minus : {z y : ℤ} {a b c d : ℕ} → Is z a b → Is y c d → Is (z -ℤ y) (a + d) (b + c)
is-minus {z} {y} {a} {b} {c} {d} h l = record { diff = d_minus z y a b c d h.diff l.diff }

pub is_same : {z y : ℤ} {a b c d : ℕ} → Is z a b → Is y c d → a + d ≡ c + b → z ≡ y
is_same {z} {y} {a} {b} {c} {d} h l e = d_same z y a b c d h.diff l.diff e

pub is_le : {z y : ℤ} {a b c d : ℕ} → Is z a b → Is y c d → a + d ≤ c + b → z ≤ℤ y
is_le {z} {y} {a} {b} {c} {d} h l e = le_z_yes (d_le z y a b c d h.diff l.diff e)

pub is_lt : {z y : ℤ} {a b c d : ℕ} → Is z a b → Is y c d → a + d < c + b → z <ℤ y
is_lt {z} {y} {a} {b} {c} {d} h l e = lt_z_yes (d_lt z y a b c d h.diff l.diff e)

pub is-leaves : (k : ℕ) {z : ℤ} {a b : ℕ} → Is z a b → leaves k z ≡ (ltb (a + 2 ^ k) b || leb (2 ^ k + b) a)
is-leaves k {z} {a} {b} h = d_leaves k z a b h.diff

pub is_signed : (k x : ℕ) → Is (signed_of k x) x (weight (leb (2 ^ k) x) (2 ^ suc k))
is_signed k x = record { diff = d_signed k x }
