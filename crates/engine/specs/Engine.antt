-- What the loop that all runs share leaves: the state, the memory, the journal and its map. Document 01, "Machine and instruction word", "Clocks"
-- and "File run and journal"; CR 6, CR 7 and CR 11.
use Rattle.std.specs.Prelude.{ℕ, ◌≡◌, Bool, cond, List}
use Rattle.model.specs.declared.Machine.{Machine}
use Rattle.model.specs.declared.Ending.{Ending}
use Rattle.model.specs.Board.{Board}
use Rattle.model.specs.Interpreter.{begin}
use Rattle.engine.specs.declared.Ended.{Ended}
use Rattle.engine.specs.Keeping.{Kept, kept_at, keep_run}

abbrev pub ended_at : (full : Bool) → Ending → Machine → (position ran clocks pairs : ℕ) → Ended
ended_at full ending m position ran clocks pairs =
    record { full = full; ending = ending; machine = m; position = position; ran = ran; clocks = clocks; pairs = pairs }

-- where the journal is full the machine is the start's, to which a file goes back
abbrev pub ended_of : Machine → Kept → Ended
ended_of start k =
    ended_at k.full k.run.ending (cond k.full start k.run.machine) k.run.position k.run.ran k.run.clocks k.pairs

pub record EngineEnds (memory : List ℕ) (board : Board) (from : ℕ) (journal map : List ℕ) (pairs : ℕ) (start : Machine) (count : ℕ) (memory' journal' map' : List ℕ) (e : Ended) : Type 0 where
  pub result : e ≡ ended_of start (keep_run board count (kept_at (begin start memory from) journal map pairs))
  pub words : memory' ≡ (keep_run board count (kept_at (begin start memory from) journal map pairs)).run.memory
  pub places : journal' ≡ (keep_run board count (kept_at (begin start memory from) journal map pairs)).places
  pub marks : map' ≡ (keep_run board count (kept_at (begin start memory from) journal map pairs)).map
