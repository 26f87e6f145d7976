-- Rows past the accesses, row 12, and one clock by its cases: an access's last clock, one before it, an address that is absent, a row that
-- is no access.
use Prim.Native.Nat.{ℕ, zero, suc, ◌≤◌}
use mathlib.Core.Path.{◌≡◌, refl, sym}
use mathlib.Core.Bool.{Bool, true, false, cond}
use native.Mathlib.Omega.{arith}
use lib.ListN.{get_or-eq_default}
use Rattle.model.specs.Board.{Board}
use Rattle.model.specs.declared.GateState.{GateState}
use Rattle.model.specs.Words.{present}
use Rattle.model.specs.GateMachine.{Gate, with_access, on_state, work, access_rows, is_access, remaining, position_now, work_or_wait, clock}

-- past row 11 there is no access
pub access-past : (r : ℕ) → 12 ≤ r → false ≡ is_access r
unfolding is_access
access-past r h = sym (get_or-eq_default access_rows false {n = r} (omega arith))

-- in row 12 no clock changes anything
pub halted-stands : (board : Board) (g : Gate) → g.state.row ≡ 12 → clock board g ≡ g
unfolding clock work is_access
halted-stands board g e = rw e

module _ (board : Board) (g : Gate) where
  abbrev s : GateState
  s = g.state

  abbrev here : Bool
  here = present g.memory s.address

  -- the access over, and not over
  abbrev pub access_over : Gate → Gate
  access_over = on_state (λ memory. with_access (position_now board.waits s) false 0)

  abbrev lasting : ℕ → Gate → Gate
  lasting left = on_state (λ memory. with_access (position_now board.waits s) true left)

  -- a property of what the clock does to any machine in g's state and memory, as to g itself
  pub one-clock : (P : (Gate → Gate) → Type 0)
      → (is_access s.row ≡ true → here ≡ true → remaining board.waits s ≡ 0 → P (λ h. work board.bottom (access_over h)))
      → (is_access s.row ≡ true → here ≡ true → (w : ℕ) → remaining board.waits s ≡ suc w → P (lasting (suc w)))
      → (is_access s.row ≡ true → here ≡ false → P (λ h. h))
      → (is_access s.row ≡ false → P (work board.bottom))
      → P (λ h. cond (is_access s.row) (cond here (work_or_wait board.bottom (remaining board.waits s) (position_now board.waits s) h) h) (work board.bottom h))
  unfolding work_or_wait
  one-clock P last on gone plain = go (is_access s.row) refl here refl (remaining board.waits s) refl
    where
      go : (a : Bool) → is_access s.row ≡ a → (t : Bool) → here ≡ t → (w : ℕ) → remaining board.waits s ≡ w
          → P (λ h. cond a (cond t (work_or_wait board.bottom w (position_now board.waits s) h) h) (work board.bottom h))
      go true a true t zero e = last a t e
      go true a true t (suc w) e = on a t w e
      go true a false t w e = gone a t
      go false a t _ w e = plain a
