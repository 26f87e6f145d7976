-- What a match's last arm knows, and the unit's answer there.
use Rattle.std.proofs.Common.{◌≡◌, ℕ, zero, suc, ◌+◌, ◌≤◌, Bool, refl, arith}
use lib.ListN.{get_or-eq_default}
use Rattle.arithmetic.specs.Alu.{plain_of, answers, alu_at}

-- n is none of the m numbers from `first` on, the numbers of the arms above
abbrev pub NoneOf : (first m n : ℕ) → Type 0
NoneOf first zero n = Unit
NoneOf first (suc m) n = NoneOf first m n × (n ≡ first + m → ⊥)

pub past_all : (first m n : ℕ) → NoneOf first m n → first ≤ n → first + m ≤ n
past_all first zero n h l = omega arith
past_all first (suc m) n h l = more (past_all first m n h.0 l) h.1
  where
    more : first + m ≤ n → (n ≡ first + m → ⊥) → first + suc m ≤ n
    more k d = omega arith

-- 0 and 15, which are none of 1 to 14, move a
pub moved : (k n a b : ℕ) (c : Bool) → NoneOf 1 14 n → alu_at k n a b c ≡ plain_of k a
unfolding alu_at answers
moved k zero a b c h = refl
moved k (suc n) a b c h = get_or-eq_default (answers k a b c) (plain_of k a) {n = suc n} (past_all 1 14 (suc n) h (omega arith))
