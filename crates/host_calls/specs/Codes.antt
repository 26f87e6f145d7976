-- The code that each call returns, and what it leaves of what it was lent. Document 01, "Why a call is turned down", and
-- document 02 number the refusals; CR 1, CR 5, CR 7 and CR 11.
use Rattle.gate_machine.specs.Calls.{gate_finished}
use Rattle.model.specs.declared.Refusal.{Refusal}
use Rattle.traverses.specs.declared.TraverseEnding.{TraverseEnding}
use Rattle.interpreter.specs.declared.FileEnding.{FileEnding}
use Rattle.model.specs.declared.Ending.{Ending}
use Rattle.std.specs.Prelude.{ℕ, Bool, cond, ◌||◌, List, [], ◌∷◌, eqb, Ok, Err, Result}
use Rattle.model.specs.Refusals.{refusal_number}
use Rattle.interpreter.specs.declared.RunResult.{RunResult}
use Rattle.interpreter.specs.declared.FileResult.{FileResult}
use Rattle.gate_machine.specs.declared.GateResult.{GateResult}
use Rattle.image.specs.declared.ReadResult.{ReadResult}
use Rattle.image.specs.Calls.{write_size, read_count, read_version}
use Rattle.traverses.specs.declared.TraverseResult.{TraverseResult}

-- ---- the codes: a refusal has the papers' number; of a gate run, a read and a write the answer's number is the code

-- carried out
abbrev pub done : ℕ
done = 0

-- carried out and ended "outside" or "undone"
abbrev pub stopped : ℕ
stopped = 100

-- CR 5: carried out and ended "no instruction"
abbrev pub halted : ℕ
halted = 101

-- CR 11: carried out and ended "journal full"
abbrev pub journal_full : ℕ
journal_full = 102

-- what is lent has not the layout's lengths
abbrev pub misfit : ℕ
misfit = 200

abbrev pub run_code : Result Ending Refusal → ℕ
run_code (Ok Ending.Finished) = done
run_code (Ok Ending.Outside) = stopped
run_code (Ok Ending.NoInstruction) = halted
run_code (Err why) = refusal_number why

abbrev pub file_code : Result FileEnding Refusal → ℕ
file_code (Ok FileEnding.Finished) = done
file_code (Ok FileEnding.Undone) = stopped
file_code (Ok FileEnding.Full) = journal_full
file_code (Err why) = refusal_number why

-- CR 1: a traverse under rule 1 that is carried out is done, whichever files were undone
abbrev pub traverse_code : Result TraverseEnding Refusal → ℕ
traverse_code (Ok (TraverseEnding.Marked files)) = done
traverse_code (Ok TraverseEnding.Finished) = done
traverse_code (Ok (TraverseEnding.Undone file)) = stopped
traverse_code (Ok (TraverseEnding.Full file)) = journal_full
traverse_code (Err why) = refusal_number why

-- the code of a call that goes on only where what is lent has the layout's lengths
abbrev pub code_if : Bool → ℕ → ℕ
code_if fits code = cond fits code misfit

abbrev pub carried_out : (code : ℕ) → Bool
carried_out code = eqb code done || eqb code stopped || eqb code halted || eqb code journal_full

-- carried out to its end
abbrev pub finishes : (code : ℕ) → Bool
finishes code = eqb code done

-- a lent slice after the call: what a call that was carried out puts there, or as it was
abbrev pub after_call : (code : ℕ) → (put former : List ℕ) → List ℕ
after_call code put former = cond (carried_out code) put former

-- a lent machine after a file run or a traverse, which puts its machine there where it finished; "undone" and "journal full" leave the words as
-- they were
abbrev pub after_file : (code : ℕ) → (put former : List ℕ) → List ℕ
after_file code put former = cond (finishes code) put former

-- ---- the numbers for the result's places

-- the instructions that ran, the clock total, the list position after (CR 7)
abbrev pub run_counts : RunResult → List ℕ
run_counts r = r.ran ∷ r.clocks ∷ r.position ∷ []

-- the instructions that ran, the journal's pairs
abbrev pub file_counts : FileResult → List ℕ
file_counts r = r.ran ∷ r.pairs ∷ []

-- the instructions finished
abbrev pub gate_counts : GateResult → List ℕ
gate_counts r = gate_finished r.outcome ∷ []

-- CR 1: the mask of the undone files, or the number of the file that was undone or had its journal full, 0 where none was; the instructions that
-- ran in the last file run, the journal's pairs
abbrev pub undone_files : Result TraverseEnding Refusal → ℕ
undone_files (Ok (TraverseEnding.Marked files)) = files
undone_files (Ok TraverseEnding.Finished) = 0
undone_files (Ok (TraverseEnding.Undone file)) = file
undone_files (Ok (TraverseEnding.Full file)) = file
undone_files (Err why) = 0

abbrev pub traverse_counts : TraverseResult → List ℕ
traverse_counts r = undone_files r.answer ∷ r.ran ∷ r.pairs ∷ []

-- the image's words, its version (CR 1)
abbrev pub read_counts : ReadResult → List ℕ
read_counts r = read_count r.answer ∷ read_version r.answer ∷ []

-- the image's bytes
abbrev pub write_counts : Result ℕ Refusal → List ℕ
write_counts r = write_size r ∷ []
