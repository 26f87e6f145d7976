-- CR 6: the bottom of memory, in the terms of what a run, a file run and a gate run return by their contracts: it is never altered, and a
-- call that is carried out and stores nothing below it returns and leaves what it does with the bottom at 0; from any list position and with
-- any resets (CR 7), and with a journal of any size (CR 11).
use Rattle.std.specs.Prelude.{ℕ, ◌≡◌, true, List, take}
use Rattle.model.specs.declared.Machine.{Machine}
use Rattle.model.specs.declared.GateState.{GateState}
use Rattle.model.specs.Board.{Board}
use Rattle.model.specs.Interpreter.{begin}
use Rattle.model.specs.Agreement.{gate_from}
use Rattle.model.specs.Bottom.{never_stores_below, no_clock_stores_below, level}
use Rattle.interpreter.specs.declared.RunResult.{RunResult}
use Rattle.interpreter.specs.declared.FileResult.{FileResult}
use Rattle.interpreter.specs.Calls.{run_number, Runs, file_board, file_number, FileRuns}
use Rattle.gate_machine.specs.declared.GateResult.{GateResult}
use Rattle.gate_machine.specs.Calls.{gate_number, GateRuns}

-- ---- the words below the bottom are as they were lent, whatever the call answers

abbrev pub RunCallKeepsBottom : Type 0
RunCallKeepsBottom =
    (memory : List ℕ) (board : Board) (position : ℕ) (start : Machine) (n : ℕ)
    → (r : RunResult) (words : List ℕ) → Runs memory board position start n words r
    → take board.bottom words ≡ take board.bottom memory

abbrev pub FileCallKeepsBottom : Type 0
FileCallKeepsBottom =
    (memory : List ℕ) (bottom : ℕ) (journal : List ℕ) (start : Machine) (n : ℕ)
    → (r : FileResult) (words places : List ℕ) → FileRuns memory bottom journal start n words places r
    → take bottom words ≡ take bottom memory

abbrev pub GateCallKeepsBottom : Type 0
GateCallKeepsBottom =
    (memory : List ℕ) (board : Board) (resets : List ℕ) (start : GateState) (k : ℕ)
    → (r : GateResult) (words : List ℕ) → GateRuns memory board resets start k words r
    → take board.bottom words ≡ take board.bottom memory

-- ---- as with the bottom at 0

abbrev pub RunCallAsLevel : Type 0
RunCallAsLevel =
    (memory : List ℕ) (board : Board) (position : ℕ) (start : Machine) (n : ℕ)
    → never_stores_below board.bottom board n (begin start memory position) ≡ true
    → (r : RunResult) (words : List ℕ) → Runs memory board position start n words r → run_number r.answer ≡ 0
    → (r' : RunResult) (words' : List ℕ) → Runs memory (level board) position start n words' r'
    → (r ≡ r') × (words ≡ words')

abbrev pub FileCallAsLevel : Type 0
FileCallAsLevel =
    (memory : List ℕ) (bottom : ℕ) (journal : List ℕ) (start : Machine) (n : ℕ)
    → never_stores_below bottom (file_board bottom) n (begin start memory 0) ≡ true
    → (r : FileResult) (words places : List ℕ) → FileRuns memory bottom journal start n words places r → file_number r.answer ≡ 0
    → (r' : FileResult) (words' places' : List ℕ) → FileRuns memory 0 journal start n words' places' r'
    → (r ≡ r') × (words ≡ words') × (places ≡ places')

abbrev pub GateCallAsLevel : Type 0
GateCallAsLevel =
    (memory : List ℕ) (board : Board) (resets : List ℕ) (start : GateState) (k : ℕ)
    → no_clock_stores_below board.bottom board resets k (gate_from start memory) ≡ true
    → (r : GateResult) (words : List ℕ) → GateRuns memory board resets start k words r → gate_number r.outcome ≡ 0
    → (r' : GateResult) (words' : List ℕ) → GateRuns memory (level board) resets start k words' r'
    → (r ≡ r') × (words ≡ words')
