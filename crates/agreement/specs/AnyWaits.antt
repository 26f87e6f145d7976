-- Two runs from one start under different wait lists, from any positions of them, over one bottom, in the terms of what the two calls return
-- by their contract. Document 01, "Clocks"; CR 6 and CR 7.
use Rattle.std.specs.Prelude.{ℕ, ◌≡◌, List}
use Rattle.model.specs.declared.Machine.{Machine}
use Rattle.model.specs.Board.{board_with}
use Rattle.interpreter.specs.declared.RunResult.{RunResult}
use Rattle.interpreter.specs.Calls.{Runs, run_number}

-- One run returned r and left `words`, the other returned r' and left `words'`: all but the clocks and the position is alike.
pub record Alike (words : List ℕ) (r : RunResult) (words' : List ℕ) (r' : RunResult) : Type 0 where
  pub answer : r.answer ≡ r'.answer
  pub machine : r.machine ≡ r'.machine
  pub ran : r.ran ≡ r'.ran
  pub memory : words ≡ words'

-- for every memory, bottom, start and n, under any two wait lists and positions, where neither run is turned down
abbrev pub AnyWaits : Type 0
AnyWaits =
    (memory : List ℕ) (bottom : ℕ) (waits waits' : List ℕ) (position position' : ℕ) (start : Machine) (n : ℕ)
    → (r : RunResult) (words : List ℕ) → Runs memory (board_with bottom waits) position start n words r → run_number r.answer ≡ 0
    → (r' : RunResult) (words' : List ℕ) → Runs memory (board_with bottom waits') position' start n words' r' → run_number r'.answer ≡ 0
    → Alike words r words' r'
