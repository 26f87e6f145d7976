-- Of document 01's bench words, the flags of operations 7, 8 and 3 that the starred cases do not look at. A row each of operation, a, b,
-- carry and what the unit answers; all compute.
use Rattle.std.proofs.Common.{◌≡◌, ℕ, Bool, true, false, List, [], ◌∷◌, map, refl}
use Rattle.arithmetic.specs.declared.AluOut.{AluOut}
use Rattle.arithmetic.specs.Words.{signed_of, leaves}
use Rattle.arithmetic.specs.Alu.{answer, sum_of, difference_of, halved_of, answers, alu_at, alu_of}

record Row : Type 0 where
  operation : ℕ
  a : ℕ
  b : ℕ
  c : Bool
  expected : AluOut

row : ℕ → ℕ → ℕ → Bool → ℕ → Bool → Bool → Row
row o a b c r d v = record { operation = o; a = a; b = b; c = c; expected = answer 31 r d v }

table : List Row
table =
    row 7 1 0 false 0xFFFF_FFFF true false
    ∷ row 8 1 0 false 0 true false
    ∷ row 8 0 0 true 0x8000_0000 false false
    ∷ row 3 9 1 false 10 false false
    ∷ []

examples : map (λ (w : Row). alu_of w.operation w.a w.b w.c) table ≡ map (λ (w : Row). w.expected) table
unfolding table row alu_of alu_at answers sum_of difference_of halved_of leaves signed_of
examples = refl
