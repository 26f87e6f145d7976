-- What the end of a file run leaves, from how the loop ended: the answer, and the memory with its stores taken back unless it finished. CR 11.
use Rattle.std.specs.Prelude.{ℕ, min, ◌≡◌, Bool, not, cond, ◌&&◌, List, Ok}
use Rattle.model.specs.declared.Machine.{Machine}
use Rattle.model.specs.Interpreter.{goes_on}
use Rattle.model.specs.Journal.{room_in}
use Rattle.journal.specs.Undo.{undone}
use Rattle.engine.specs.declared.Ended.{Ended}
use Rattle.interpreter.specs.declared.FileResult.{FileResult}
use Rattle.interpreter.specs.Calls.{file_answer_of}

abbrev pub ended : Ended → Bool
ended e = not e.full && goes_on e.ending

pub record FileEnds (memory journal : List ℕ) (start : Machine) (e : Ended) (memory' : List ℕ) (r : FileResult) : Type 0 where
  pub result : r ≡ record { answer = Ok (file_answer_of e.full e.ending); machine = cond (ended e) e.machine start; ran = e.ran; pairs = e.pairs }
  pub words : memory' ≡ cond (ended e) memory (undone (min e.pairs (room_in journal)) journal memory)
