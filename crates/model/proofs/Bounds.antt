-- How large a run's clock total gets, for the 64 bits of the code, and its count.
use Prim.Native.Nat.{ℕ, zero, suc, ◌+◌, ◌*◌, ◌≤◌}
use mathlib.Core.Bool.{◌&&◌}
use mathlib.Core.List.{List}
use native.Mathlib.Nat.{mul-le-mul_right}
use native.Mathlib.Omega.{arith}
use Rattle.arithmetic.proofs.Bits.{bit_le}
use Rattle.model.specs.Board.{Board}
use Rattle.model.specs.declared.Machine.{Machine}
use Rattle.model.specs.Operands.{in_memory}
use Rattle.model.specs.Waits.{wait_at, next_position, wait_sum}
use Rattle.model.specs.Interpreter.{Run, op_a, op_b, is_stored, base_clocks, accesses, execute, stop, advance, interpret}
use Rattle.model.proofs.Runs.{one_more}

-- ---- the count of instructions

advance-ran : (board : Board) (r : Run) → (advance board r).ran ≤ r.ran + 1
unfolding execute stop
advance-ran board r = one_more board (λ (x : Run). x.ran ≤ r.ran + 1) r (λ _ _. omega arith) (λ _ _. omega arith) (λ _. omega arith)

pub ran_le : (board : Board) (n : ℕ) (r : Run) → (interpret board n r).ran ≤ r.ran + n
unfolding interpret
ran_le board zero r = omega arith
ran_le board (suc n) r = omega (arith, ran_le board n r, advance-ran board (interpret board n r))

-- ---- the clocks, with waits of at most w each

module _ (board : Board) (w : ℕ) (short : (p : ℕ) → wait_at board.waits p ≤ w) where
  sum-le : (p n : ℕ) → wait_sum board.waits p n ≤ n * w
  unfolding wait_sum
  sum-le p zero = omega arith
  sum-le p (suc n) = omega (arith, short p, sum-le (next_position board.waits p) n)

  instruction-le : (memory : List ℕ) (m : Machine) (p : ℕ) → base_clocks memory m + wait_sum board.waits p (accesses memory m) ≤ 11 + 4 * w
  instruction-le memory m p =
      let a = bit_le (in_memory (op_a memory m)) in
      let b = bit_le (in_memory (op_b memory m)) in
      let s = bit_le (is_stored memory m) in
      let t = bit_le (is_stored memory m && in_memory (op_b memory m)) in
      let few : accesses memory m ≤ 4 = omega arith in
      omega (arith, sum-le p (accesses memory m), mul-le-mul_right w few)

  advance-le : (r : Run) → (advance board r).clocks ≤ r.clocks + (11 + 4 * w)
  unfolding execute stop
  advance-le r =
      one_more board (λ (x : Run). x.clocks ≤ r.clocks + (11 + 4 * w)) r
      (λ _ _. omega (arith, instruction-le r.memory r.machine r.position))
      (λ _ _. omega arith)
      (λ _. omega arith)

  -- at most 11 clocks and four waits for each instruction
  pub clocks-le : (n : ℕ) (r : Run) → (interpret board n r).clocks ≤ r.clocks + n * (11 + 4 * w)
  unfolding interpret
  clocks-le zero r = omega arith
  clocks-le (suc n) r = omega (arith, clocks-le n r, advance-le (interpret board n r))
