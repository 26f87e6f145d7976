-- Any adder with its flags, at every width of k + 1 bits. Of the adder only this is used: its sum and its carry are worth what the two rows
-- and the carry in are.
use Prim.Native.Nat.{ℕ, suc, ◌+◌, ◌*◌, ◌^◌}
use mathlib.Core.Path.{◌≡◌, refl, ap, subst, ◌∙◌}
use mathlib.Core.Bool.{Bool, true, false, not, xor}
use mathlib.Core.List.{List}
use native.Mathlib.Omega.{arith}
use lib.ListN.{length, get_or}
use Rattle.arithmetic.specs.declared.AluOut.{AluOut}
use Rattle.arithmetic.specs.Words.{as_number, top_of, overflow_of}
use Rattle.arithmetic.specs.Alu.{answer, sum_of, difference_of}
use Rattle.arithmetic.proofs.Bits.{xor_false}
use Rattle.arithmetic.proofs.Sums.{same_answer, sum_is, difference_is, turned, top_complement, turned-overflow}
use Rattle.gate_network.specs.Gates.{value}
use Rattle.gate_network.specs.Theorems.{Adds}
use Rattle.gate_network.proofs.Worth.{value-below, value-top}

-- the adder with its flags, the carry turned round for a difference
abbrev pub flagged : ℕ → List Bool → List Bool → List Bool → Bool → Bool → AluOut
flagged k p q s d turn = answer k (value s) (xor d turn) (overflow_of (get_or p k false) (get_or q k false) (get_or s k false))

module _ (k : ℕ) (p q s : List Bool) (f d : Bool) (lp : length p ≡ suc k) (lq : length q ≡ suc k) (h : Adds p q f s d) where
  ls : length s ≡ suc k
  ls = h.long ∙ lp

  adds : value s + as_number d * 2 ^ suc k ≡ value p + value q + as_number f
  adds = subst (λ (n : ℕ). value s + as_number d * 2 ^ n ≡ value p + value q + as_number f) lp h.worth

  tops : overflow_of (get_or p k false) (get_or q k false) (get_or s k false) ≡ overflow_of (top_of k (value p)) (top_of k (value q)) (top_of k (value s))
  tops = λ i. overflow_of (value-top k p lp i) (value-top k q lq i) (value-top k s ls i)

  pub adder_sum : flagged k p q s d false ≡ sum_of k (value p) (value q) f
  adder_sum =
      same_answer k refl (xor_false d) tops
      ∙ sum_is k (value p) (value q) (value s) f d (value-below p (suc k) lp) (value-below q (suc k) lq) (value-below s (suc k) ls) adds

  pub adder_difference : (y : ℕ) (c : Bool) → f ≡ not c → value q + y + 1 ≡ 2 ^ suc k → flagged k p q s d true ≡ difference_of k (value p) y c
  adder_difference y c t e =
      same_answer k refl refl
      (tops ∙ ap (λ (z : Bool). overflow_of (top_of k (value p)) z (top_of k (value s))) (top_complement k (value q) y e)
      ∙ turned-overflow (top_of k (value p)) (top_of k y) (top_of k (value s)))
      ∙ difference_is k (value p) y (value s) c (xor d true) (value-below p (suc k) lp) (omega arith) (value-below s (suc k) ls)
      (turned (value s) (value p) y (value q) (2 ^ suc k) d c e (adds ∙ ap (λ (z : Bool). value p + value q + as_number z) t))
