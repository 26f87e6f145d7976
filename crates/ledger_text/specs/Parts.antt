-- Parts of a text put into a buffer one after the other, and a run's whole text: what the code's functions leave. Bytes past the
-- buffer's end are left out. Document 01, "The ledger program"; CR 5.
use Rattle.model.specs.declared.Refusal.{Refusal}
use Rattle.std.specs.Prelude.{ℕ, ◌+◌, ◌≡◌, List, length, Ok, Err, Result}
use Rattle.std.proofs.lemmas.List.Edits.{sets}
use Rattle.model.specs.declared.Machine.{Machine}
use Rattle.model.specs.declared.Ending.{Ending}
use Rattle.model.specs.declared.Ending.TheVariants.{Outside}
use Rattle.model.specs.Interpreter.{begin, interpret}
use Rattle.ledger_text.specs.declared.writer.Writer.{Writer}
use Rattle.ledger_lines.specs.Lines.{most_lines, ledger_board, run_text}

-- a text put in from a place on, and the place after it
pub record Extends (out : List ℕ) (at : ℕ) (text out' : List ℕ) (next : ℕ) : Type 0 where
  pub buffer : out' ≡ sets out at text
  pub place : next ≡ at + length text

-- a text put in by a writer at its place, which keeps the buffer that was lent to it
pub record Writes (w : Writer) (text : List ℕ) (w' : Writer) : Type 0 where
  pub put : Extends w.out.now w.at text w'.out.now w'.at
  pub same_reference : w'.out.ghost_name ≡ w.out.ghost_name

-- how a run ended that answered so; one that was turned down, which none on an image's words is, counts as outside
abbrev pub ending_of : Result Ending Refusal → Ending
ending_of (Ok ending) = ending
ending_of (Err why) = Outside

-- a run on a memory: its text in the buffer from the start, and the words that it leaves
pub record RunPuts (start : Machine) (memory out memory' out' : List ℕ) (size : ℕ) : Type 0 where
  pub text : Extends out 0 (run_text (begin start memory 0)) out' size
  pub words : memory' ≡ (interpret ledger_board most_lines (begin start memory 0)).memory
