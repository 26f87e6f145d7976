-- What the sums mean, at every width of k + 1 bits. A result is the true value, or off from it by the number of words; V or C says which.
use Rattle.std.proofs.Common.{◌≡◌, ℕ, zero, suc, ◌+◌, ◌*◌, ◌/◌, ◌^◌, ◌<◌, Bool, true, false, leb, ℤ, refl, ap, subst, inl, inr, true≢false, pow-suc, arith, pow_pos, le-leb}
use mathlib.Core.Bool.{false≢true}
use borrow.Author.Tests.{lt-leb}
use Rattle.arithmetic.specs.Words.{as_number, top_of, signed_of}
use Rattle.arithmetic.specs.Alu.{answer, sum_of, difference_of, halved_of, answers, alu_at}
use Rattle.arithmetic.specs.Meaning.{FloorOfHalf, SignedMeans, UnsignedMeans, SignedSums, UnsignedSums, RoundsDown, SumsMeaning}
use Rattle.arithmetic.proofs.Integers.{Is, weight, is_pos, is_move, is-add, is-minus, is_same, is_le, is_lt, is_signed}
use Rattle.arithmetic.proofs.Sums.{Off, exact, lower, higher, Top, top-of, signed_range, none-top, signed-sum, signed-difference, sum_by, difference_by}

-- ---- V and C

signed-means : (k r : ℕ) (d : Bool) {v : Bool} {z : ℤ} {a b : ℕ} → r < 2 ^ suc k → Is z a b
    → Off a b r (weight (top_of k r) (2 ^ suc k)) (2 ^ suc k) v → SignedMeans k z (answer k r d v)
signed-means k r d hr i (exact e) = record { exact = λ q. is_same (is_signed k r) i (omega arith); off = λ q. absurd (false≢true q) }
signed-means k r d hr i (lower e) =
    record {
      exact = λ q. absurd (true≢false q);
      off = λ q. inr (is_lt i (is_pos 0) (omega arith), is_same (is_signed k r) (is-add i (is_pos (2 ^ suc k))) (omega arith));
    }
signed-means k r d hr i (higher e) =
    record {
      exact = λ q. absurd (true≢false q);
      off = λ q. inl (is_lt (is_pos 0) i (omega (arith, signed_range k r hr, pow-suc 2 k, pow_pos k)), is_same (is_signed k r) (is-minus i (is_pos (2 ^ suc k))) (omega arith));
    }

unsigned-means : (k r : ℕ) (d v : Bool) {z : ℤ} {s : ℕ} → Is z s 0 → r + as_number d * 2 ^ suc k ≡ s → UnsignedMeans k z (answer k r d v)
unsigned-means k r true v i e =
    record {
      exact = λ q. absurd (true≢false q);
      off = λ q. (is_lt (is_pos 0) i (omega (arith, pow_pos (suc k))), is_same (is_pos r) (is-minus i (is_pos (2 ^ suc k))) (omega arith));
    }
unsigned-means k r false v i e = record { exact = λ q. is_same (is_pos r) i (omega arith); off = λ q. absurd (false≢true q) }

module _ (k x y : ℕ) (c : Bool) (hx : x < 2 ^ suc k) (hy : y < 2 ^ suc k) {z : ℤ} where
  sum-signed : Is z (x + y + as_number c) (weight (top_of k x) (2 ^ suc k) + weight (top_of k y) (2 ^ suc k)) → SignedMeans k z (sum_of k x y c)
  sum-signed i = sum_by (SignedMeans k z) k x y c hx hy (λ r d hr e. signed-means k r d hr i (signed-sum k x y r c d hx hy hr e))

  sum-unsigned : Is z (x + y + as_number c) 0 → UnsignedMeans k z (sum_of k x y c)
  sum-unsigned i = sum_by (UnsignedMeans k z) k x y c hx hy (λ r d hr e. unsigned-means k r d _ i e)

  difference_signed : Is z (x + weight (top_of k y) (2 ^ suc k)) (weight (top_of k x) (2 ^ suc k) + (y + as_number c)) → SignedMeans k z (difference_of k x y c)
  difference_signed i = difference_by (SignedMeans k z) k x y c hx hy (λ r d hr e. signed-means k r d hr i (signed-difference k x y r c d hx hy hr e))

-- ---- operation 9

-- the top bit stays
halved-top : (k a : ℕ) → a < 2 ^ suc k → top_of k (a / 2 + as_number (top_of k a) * 2 ^ k) ≡ top_of k a
halved-top k a ha = go (top_of k a) (top-of k a)
  where
    go : (t : Bool) → Top t (2 ^ k) a → leb (2 ^ k) (a / 2 + as_number t * 2 ^ k) ≡ t
    go true h = le-leb (2 ^ k) (a / 2 + 1 * 2 ^ k) (omega arith)
    go false h = lt-leb (2 ^ k) (a / 2 + 0 * 2 ^ k) (omega arith)

-- a - w halved, w being 0 or the number of words
floor_of_half : (k a r : ℕ) (t : Bool) {z y : ℤ} → Is z a (weight t (2 ^ suc k)) → Is y r (weight t (2 ^ suc k)) → r ≡ a / 2 + as_number t * 2 ^ k → FloorOfHalf z y
floor_of_half k a r true i j e =
    record {
      double = is_le (is-add j j) i (omega (arith, pow-suc 2 k));
      next = is_lt i (is-add (is-add j (is_pos 1)) (is-add j (is_pos 1))) (omega (arith, pow-suc 2 k));
    }
floor_of_half k a r false i j e =
    record { double = is_le (is-add j j) i (omega arith); next = is_lt i (is-add (is-add j (is_pos 1)) (is-add j (is_pos 1))) (omega arith) }

-- ---- by operation

module _ (k a b : ℕ) (c : Bool) (ha : a < 2 ^ suc k) (hb : b < 2 ^ suc k) where
  no-weight : weight (top_of k 0) (2 ^ suc k) ≡ 0
  no-weight = ap (λ (t : Bool). weight t (2 ^ suc k)) (none-top k)

  ia : Is (signed_of k a) a (weight (top_of k a) (2 ^ suc k))
  ia = is_signed k a

  ib : Is (signed_of k b) b (weight (top_of k b) (2 ^ suc k))
  ib = is_signed k b

  signed_by : (n : ℕ) → SignedSums k n a b c (alu_at k n a b c)
  unfolding alu_at answers
  signed_by zero h l = absurd (omega arith)
  signed_by (suc zero) h l = sum-signed k a 0 true ha (pow_pos (suc k)) (is_move (is-add ia (is_pos 1)) (omega (arith, no-weight)))
  signed_by (suc (suc zero)) h l = sum-signed k b a c hb ha (is_move (is-add (is-add ib ia) (is_pos (as_number c))) (omega arith))
  signed_by (suc (suc (suc zero))) h l = sum-signed k b a false hb ha (is_move (is-add ib ia) (omega arith))
  signed_by (suc (suc (suc (suc zero)))) h l = difference_signed k 0 a false (pow_pos (suc k)) ha (is_move (is-minus (is_pos 0) ia) (omega (arith, no-weight)))
  signed_by (suc (suc (suc (suc (suc zero))))) h l = difference_signed k a 0 true ha (pow_pos (suc k)) (is_move (is-minus ia (is_pos 1)) (omega (arith, no-weight)))
  signed_by (suc (suc (suc (suc (suc (suc zero)))))) h l = difference_signed k b a c hb ha (is_move (is-minus (is-minus ib ia) (is_pos (as_number c))) (omega arith))
  signed_by (suc (suc (suc (suc (suc (suc (suc zero))))))) h l = difference_signed k b a false hb ha (is_move (is-minus ib ia) (omega arith))
  signed_by (suc (suc (suc (suc (suc (suc (suc (suc n)))))))) h l = absurd (omega arith)

  unsigned_by : (n : ℕ) → UnsignedSums k n a b c (alu_at k n a b c)
  unfolding alu_at answers
  unsigned_by zero h l = absurd (omega arith)
  unsigned_by (suc zero) h l = sum-unsigned k a 0 true ha (pow_pos (suc k)) (is_move (is-add (is_pos a) (is_pos 1)) (omega arith))
  unsigned_by (suc (suc zero)) h l = sum-unsigned k b a c hb ha (is-add (is-add (is_pos b) (is_pos a)) (is_pos (as_number c)))
  unsigned_by (suc (suc (suc zero))) h l = sum-unsigned k b a false hb ha (is_move (is-add (is_pos b) (is_pos a)) (omega arith))
  unsigned_by (suc (suc (suc (suc n)))) h l = absurd (omega arith)

  halved-by : (n : ℕ) → RoundsDown k n a (alu_at k n a b c)
  unfolding alu_at answers halved_of
  halved-by n e =
      let r = a / 2 + as_number (top_of k a) * 2 ^ k in
      rw e (floor_of_half k a r (top_of k a) ia (subst (λ (t : Bool). Is (signed_of k r) r (weight t (2 ^ suc k))) (halved-top k a ha) (is_signed k r)) refl)

pub sums-meaning : SumsMeaning
sums-meaning k n a b c ha hb = record { signed = signed_by k a b c ha hb n; unsigned = unsigned_by k a b c ha hb n; halved = halved-by k a b c ha hb n }
