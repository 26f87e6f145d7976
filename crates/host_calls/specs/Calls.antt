-- What each exported call returns and leaves in what it is lent: the calls of the interpreter, the gate machine, a traverse, the image
-- reader and the image writer, on lent words. Document 01, "Machine and instruction word", "Clocks", "File run and journal", "Image" and "Why a call
-- is turned down"; CR 1, CR 5, CR 6, CR 7 and CR 11.
use Rattle.model.specs.declared.Refusal.{Refusal}
use Rattle.std.specs.Prelude.{ℕ, ◌%◌, ◌≡◌, Bool, cond, ◌&&◌, List, eqb, length, Result}
use Rattle.model.specs.Board.{board_with}
use Rattle.interpreter.specs.declared.RunResult.{RunResult}
use Rattle.interpreter.specs.declared.FileResult.{FileResult}
use Rattle.interpreter.specs.Calls.{run_returned, run_words, file_returned, file_words, file_places}
use Rattle.gate_machine.specs.declared.GateResult.{GateResult}
use Rattle.gate_machine.specs.Calls.{gate_number, gate_returned, gate_words}
use Rattle.image.specs.declared.ReadResult.{ReadResult}
use Rattle.image.specs.Calls.{write_number, write_returned, write_bytes, read_number, read_returned, read_words}
use Rattle.traverses.specs.declared.TraverseResult.{TraverseResult}
use Rattle.traverses.specs.Calls.{traverse_returned, traverse_words, traverse_places}
use Rattle.host_reading.specs.Layout.{three_places, two_places, one_place, file_size, machine_size, machine_in, state_size, state_in, lent_formed}
use Rattle.host_words.specs.Words.{machine_words, state_words}
use Rattle.host_calls.specs.Codes.{code_if, after_call, after_file, run_code, file_code, traverse_code}
use Rattle.host_calls.specs.Codes.{run_counts, file_counts, gate_counts, traverse_counts, read_counts, write_counts}

-- whether a lent machine, and a result of so many places as are due, have the layout's lengths
abbrev pub machine_formed : (due : ℕ) → (machine result : List ℕ) → Bool
machine_formed due machine result = lent_formed machine_size due (length machine) (length result)

-- and a lent state, with a result of one place
abbrev pub state_formed : (state result : List ℕ) → Bool
state_formed state result = lent_formed state_size one_place (length state) (length result)

-- a lent list of files, with a machine and a result of three places
abbrev pub files_formed : (files machine result : List ℕ) → Bool
files_formed files machine result = eqb (length files % file_size) 0 && machine_formed three_places machine result

-- For each call: what the call within returns where what is lent has these lengths, the code that it comes to, and what it leaves.

-- ---- fm8502_run: a run of the interpreter

module _ (memory : List ℕ) (bottom : ℕ) (waits : List ℕ) (position : ℕ) (machine : List ℕ) (count : ℕ) (result : List ℕ) where
  abbrev pub run_within : RunResult
  run_within = run_returned memory (board_with bottom waits) position (machine_in machine) count

  abbrev pub run_comes_to : ℕ
  run_comes_to = code_if (machine_formed three_places machine result) (run_code run_within.answer)

  pub record RunCall (memory' machine' result' : List ℕ) (number : ℕ) : Type 0 where
    pub returned : number ≡ run_comes_to
    pub words : memory' ≡ cond (machine_formed three_places machine result) (run_words memory (board_with bottom waits) position (machine_in machine) count) memory
    pub parts : machine' ≡ after_call run_comes_to (machine_words run_within.machine) machine
    pub numbers : result' ≡ after_call run_comes_to (run_counts run_within) result

-- ---- fm8502_file_run: a file run

module _ (memory : List ℕ) (bottom : ℕ) (journal machine : List ℕ) (count : ℕ) (result : List ℕ) where
  abbrev pub file_within : FileResult
  file_within = file_returned memory bottom journal (machine_in machine) count

  abbrev pub file_comes_to : ℕ
  file_comes_to = code_if (machine_formed two_places machine result) (file_code file_within.answer)

  pub record FileCall (memory' journal' machine' result' : List ℕ) (number : ℕ) : Type 0 where
    pub returned : number ≡ file_comes_to
    pub words : memory' ≡ cond (machine_formed two_places machine result) (file_words memory bottom journal (machine_in machine) count) memory
    pub places : journal' ≡ cond (machine_formed two_places machine result) (file_places memory bottom journal (machine_in machine) count) journal
    pub parts : machine' ≡ after_file file_comes_to (machine_words file_within.machine) machine
    pub numbers : result' ≡ after_call file_comes_to (file_counts file_within) result

-- ---- fm8502_gate_run: a gate run; fm8502_clock: one clock, without resets

module _ (memory : List ℕ) (bottom : ℕ) (waits resets state : List ℕ) (clocks : ℕ) (result : List ℕ) where
  abbrev pub gate_within : GateResult
  gate_within = gate_returned memory (board_with bottom waits) resets (state_in state) clocks

  abbrev pub gate_comes_to : ℕ
  gate_comes_to = code_if (state_formed state result) (gate_number gate_within.outcome)

  pub record GateCall (memory' state' result' : List ℕ) (number : ℕ) : Type 0 where
    pub returned : number ≡ gate_comes_to
    pub words : memory' ≡ cond (state_formed state result) (gate_words memory (board_with bottom waits) resets (state_in state) clocks) memory
    pub parts : state' ≡ after_call gate_comes_to (state_words gate_within.state) state
    pub numbers : result' ≡ after_call gate_comes_to (gate_counts gate_within) result

-- ---- fm8502_traverse: a traverse (CR 1); `load` is the one list that the files' words lie in

module _ (memory : List ℕ) (bottom : ℕ) (journal load files machine : List ℕ) (version : ℕ) (result : List ℕ) where
  abbrev pub traverse_within : TraverseResult
  traverse_within = traverse_returned memory bottom journal load files (machine_in machine) version

  abbrev pub traverse_comes_to : ℕ
  traverse_comes_to = code_if (files_formed files machine result) (traverse_code traverse_within.answer)

  pub record TraverseCall (memory' journal' machine' result' : List ℕ) (number : ℕ) : Type 0 where
    pub returned : number ≡ traverse_comes_to
    pub words : memory' ≡ cond (files_formed files machine result) (traverse_words memory bottom journal load files (machine_in machine) version) memory
    pub places : journal' ≡ cond (files_formed files machine result) (traverse_places memory bottom journal load files (machine_in machine) version) journal
    pub parts : machine' ≡ after_file traverse_comes_to (machine_words traverse_within.machine) machine
    pub numbers : result' ≡ after_call traverse_comes_to (traverse_counts traverse_within) result

-- ---- fm8502_image_read: the image reader

module _ (bytes memory machine result : List ℕ) where
  abbrev pub read_within : ReadResult
  read_within = read_returned bytes memory

  abbrev pub read_comes_to : ℕ
  read_comes_to = code_if (machine_formed two_places machine result) (read_number read_within.answer)

  pub record ReadCall (memory' machine' result' : List ℕ) (number : ℕ) : Type 0 where
    pub returned : number ≡ read_comes_to
    pub words : memory' ≡ cond (machine_formed two_places machine result) (read_words bytes memory) memory
    pub parts : machine' ≡ after_call read_comes_to (machine_words read_within.machine) machine
    pub numbers : result' ≡ after_call read_comes_to (read_counts read_within) result

-- ---- fm8502_image_write: the image writer

module _ (memory machine : List ℕ) (version : ℕ) (out result : List ℕ) where
  abbrev pub write_within : Result ℕ Refusal
  write_within = write_returned memory (machine_in machine) version out

  abbrev pub write_comes_to : ℕ
  write_comes_to = code_if (machine_formed one_place machine result) (write_number write_within)

  pub record WriteCall (out' result' : List ℕ) (number : ℕ) : Type 0 where
    pub returned : number ≡ write_comes_to
    pub bytes : out' ≡ cond (machine_formed one_place machine result) (write_bytes memory (machine_in machine) version out) out
    pub numbers : result' ≡ after_call write_comes_to (write_counts write_within) result
