-- How each call ends, from what the call within it returned. Document 01, "Machine and instruction word", "Clocks" and "Why a call is turned
-- down"; CR 1.
use Rattle.model.specs.declared.Refusal.{Refusal}
use Rattle.std.specs.Prelude.{ℕ, ◌≡◌, Bool, cond, List, Result}
use Rattle.interpreter.specs.declared.RunResult.{RunResult}
use Rattle.interpreter.specs.declared.FileResult.{FileResult}
use Rattle.gate_machine.specs.declared.GateResult.{GateResult}
use Rattle.gate_machine.specs.Calls.{gate_number}
use Rattle.image.specs.declared.ReadResult.{ReadResult}
use Rattle.image.specs.Calls.{write_number, read_number}
use Rattle.traverses.specs.declared.TraverseResult.{TraverseResult}
use Rattle.host_reading.specs.Layout.{three_places, two_places, one_place, machine_size, state_size}
use Rattle.host_words.specs.Words.{machine_words, state_words, laid}
use Rattle.host_calls.specs.Codes.{run_code, file_code, traverse_code, carried_out, finishes, after_call, run_counts, file_counts, gate_counts, traverse_counts, read_counts, write_counts}

-- A call's end: the code that it returns, and what it leaves of a lent machine or state, which is written with some codes, and of a lent
-- result. A machine's parts are its registers and flags, a state's also its row, latches, list position and access.
module _ (written : ℕ → Bool) (code size : ℕ) (words : List ℕ) (due : ℕ) (counts : List ℕ) where
  pub record Ends (lent result lent' result' : List ℕ) (number : ℕ) : Type 0 where
    pub returned : number ≡ code
    pub parts : lent' ≡ cond (written code) (laid size words lent) lent
    pub numbers : result' ≡ after_call code (laid due counts result) result

abbrev pub RunEnds : RunResult → (machine result machine' result' : List ℕ) → ℕ → Type 0
RunEnds r = Ends carried_out (run_code r.answer) machine_size (machine_words r.machine) three_places (run_counts r)

abbrev pub FileEnds : FileResult → (machine result machine' result' : List ℕ) → ℕ → Type 0
FileEnds r = Ends finishes (file_code r.answer) machine_size (machine_words r.machine) two_places (file_counts r)

abbrev pub GateEnds : GateResult → (state result state' result' : List ℕ) → ℕ → Type 0
GateEnds r = Ends carried_out (gate_number r.outcome) state_size (state_words r.state) one_place (gate_counts r)

abbrev pub TraverseEnds : TraverseResult → (machine result machine' result' : List ℕ) → ℕ → Type 0
TraverseEnds r = Ends finishes (traverse_code r.answer) machine_size (machine_words r.machine) three_places (traverse_counts r)

abbrev pub ReadEnds : ReadResult → (machine result machine' result' : List ℕ) → ℕ → Type 0
ReadEnds r = Ends carried_out (read_number r.answer) machine_size (machine_words r.machine) two_places (read_counts r)

-- a write's end: the code that it returns, the result's place
pub record WriteEnds (r : Result ℕ Refusal) (result result' : List ℕ) (number : ℕ) : Type 0 where
  pub returned : number ≡ write_number r
  pub numbers : result' ≡ after_call (write_number r) (laid one_place (write_counts r) result) result
