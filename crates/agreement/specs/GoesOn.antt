-- CR 7: a run of the interpreter of n instructions, and one of m from the machine, the memory and the list position that it left, are a run of
-- n + m.
use Rattle.model.specs.declared.Refusal.{Refusal}
use Rattle.model.specs.declared.Ending.{Ending}
use Rattle.std.specs.Prelude.{ℕ, ◌+◌, ◌≡◌, List, Ok, Err, Result}
use Rattle.model.specs.declared.Machine.{Machine}
use Rattle.model.specs.Board.{Board}
use Rattle.interpreter.specs.declared.RunResult.{RunResult}
use Rattle.interpreter.specs.Calls.{Runs, run_number}

-- a first run that finished leaves the answer to the second; one that stopped, or was turned down, decides it
abbrev pub answer_sum : (first second : Result Ending Refusal) → Result Ending Refusal
answer_sum (Ok Ending.Finished) second = second
answer_sum (Ok Ending.Outside) second = Ok Ending.Outside
answer_sum (Ok Ending.NoInstruction) second = Ok Ending.NoInstruction
answer_sum (Err why) second = Err why

-- what the second of two runs returned, with the counts and the clocks of both
abbrev pub result_sum : (first second : RunResult) → RunResult
result_sum first second =
    record {
      answer = answer_sum first.answer second.answer;
      machine = second.machine;
      ran = first.ran + second.ran;
      clocks = first.clocks + second.clocks;
      position = second.position;
    }

-- for every memory, board, position, start, n and m, where the first run is not turned down: nor is the second
abbrev pub RunGoesOn : Type 0
RunGoesOn =
    (memory : List ℕ) (board : Board) (position : ℕ) (start : Machine) (n m : ℕ)
    → (first : RunResult) (words : List ℕ) → Runs memory board position start n words first → run_number first.answer ≡ 0
    → (second : RunResult) (words' : List ℕ) → Runs words board first.position first.machine m words' second
    → (whole : RunResult) (last : List ℕ) → Runs memory board position start (n + m) last whole
    → (run_number second.answer ≡ 0) × (whole ≡ result_sum first second) × (last ≡ words')
