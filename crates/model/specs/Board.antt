-- What the board gives a run beside the memory: the bottom of memory and the wait list. CR 6.
use Rattle.std.specs.Prelude.{ℕ, List}

-- P, the number of words at the front of memory that hold the board's loader; and its refresh pattern
pub record Board : Type 0 where
  pub bottom : ℕ
  pub waits : List ℕ

abbrev pub board_with : (bottom : ℕ) → (waits : List ℕ) → Board
board_with bottom waits = record { bottom = bottom; waits = waits }
