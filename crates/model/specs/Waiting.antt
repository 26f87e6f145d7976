-- What the wait list leaves alone: it changes a run's clocks and position, and nothing else. Document 01, "Clocks" and "File run and
-- journal"; CR 6.
use Rattle.std.specs.Prelude.{ℕ, ◌≡◌, List}
use Rattle.model.specs.declared.Machine.{Machine}
use Rattle.model.specs.declared.Ending.{Ending}
use Rattle.model.specs.Board.{board_with}
use Rattle.model.specs.Interpreter.{Run, begin, interpret}

-- a run but for its clocks and its position
pub record Work : Type 0 where
  pub machine : Machine
  pub memory : List ℕ
  pub ran : ℕ
  pub ending : Ending

abbrev pub work_of : Run → Work
work_of r = record { machine = r.machine; memory = r.memory; ran = r.ran; ending = r.ending }

-- under any two lists, from any two positions, over one bottom
abbrev pub WaitsOnlyWait : Type 0
WaitsOnlyWait =
    (bottom : ℕ) (waits waits' : List ℕ) (start : Machine) (memory : List ℕ) (p p' n : ℕ) →
    work_of (interpret (board_with bottom waits) n (begin start memory p)) ≡ work_of (interpret (board_with bottom waits') n (begin start memory p'))
