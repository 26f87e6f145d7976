-- Generated cases of both engines: inputs, what the reference emulator gave, and whether the model's definitions give the same. A test of
-- the definitions of document 01, "Machine and instruction word", "Clocks", "File run and journal" and "Why a call is turned down", and of
-- document 02, CR 3, CR 5, CR 6, CR 7 and CR 11.
use Rattle.std.specs.Prelude.{ℕ, suc, Bool, true, false, cond, ◌&&◌, List, [], ◌∷◌, eqb, get_or}
use Rattle.model.specs.declared.GateState.{GateState}
use Rattle.model.specs.declared.Ending.{Ending}
use Rattle.model.specs.declared.Ending.TheVariants.{Finished, Outside, NoInstruction}
use Rattle.model.specs.Board.{board_with}
use Rattle.model.specs.Interpreter.{begin, interpret}
use Rattle.model.specs.Journal.{Noted, fresh, run_noted, completes, journal_words}
use Rattle.model.specs.GateMachine.{gate_run}
use Rattle.model.specs.Packed.{packed_of, flags_of, packed_machine, latch_words}
use Rattle.model.specs.Refusals.{verdict_number, run_verdict, gate_verdict}
use Rattle.model.specs.Agreement.{gate_from}

abbrev pub same : List ℕ → List ℕ → Bool
same [] [] = true
same [] (y ∷ ys) = false
same (x ∷ xs) [] = false
same (x ∷ xs) (y ∷ ys) = eqb x y && same xs ys

-- ---- runs of the interpreter, each with two file runs: with a pair for each instruction, and with so many pairs; an ending is its number

abbrev pub ending_number : Ending → ℕ
ending_number Finished = 0
ending_number Outside = 1
ending_number NoInstruction = 2

-- finished, undone, or journal full
abbrev pub file_number : Noted → ℕ
file_number k = cond k.full 2 (cond (completes k) 0 1)

-- how a file run ended, how many instructions ran, and its journal
abbrev pub note_holds : Noted → (ending ran : ℕ) (journal : List ℕ) → Bool
note_holds k ending ran journal = eqb (file_number k) ending && eqb k.run.ran ran && same (journal_words k.pairs) journal

pub data RunCase : Type 0 where
  run_case : (memory regs : List ℕ) (flags bottom : ℕ) (waits : List ℕ) (position n : ℕ) (memory' regs' : List ℕ) (flags' ran clocks ending position' : ℕ) (ample ran₁ : ℕ) (journal₁ : List ℕ) (room scant ran₂ : ℕ) (journal₂ : List ℕ) → RunCase

abbrev pub run_holds : RunCase → Bool
run_holds (run_case memory regs flags bottom waits position n memory' regs' flags' ran clocks ending position' ample ran₁ journal₁ room scant ran₂ journal₂) =
    let start = begin (packed_machine regs flags) memory position in
    let board = board_with bottom waits in
    let r = interpret board n start in
    same r.memory memory'
    && same r.machine.regs regs'
    && eqb (packed_of r.machine.flags) flags'
    && eqb r.ran ran
    && eqb r.clocks clocks
    && eqb (ending_number r.ending) ending
    && eqb r.position position'
    && note_holds (run_noted board n n (fresh start [])) ample ran₁ journal₁
    && note_holds (run_noted board room n (fresh start [])) scant ran₂ journal₂

-- ---- gate runs; a state is its registers, and in a list its flags, row, latches, position, access begun, clocks left

pub data GateCase : Type 0 where
  gate_case : (memory : List ℕ) (bottom : ℕ) (waits resets regs latches : List ℕ) (clocks : ℕ) (memory' regs' latches' : List ℕ) (finished : ℕ) → GateCase

abbrev pub case_state : List ℕ → List ℕ → GateState
case_state regs latches =
    record {
      regs = regs;
      flags = flags_of (get_or latches 0 0);
      row = get_or latches 1 0;
      instruction = get_or latches 2 0;
      address = get_or latches 3 0;
      a = get_or latches 4 0;
      b = get_or latches 5 0;
      result = get_or latches 6 0;
      position = get_or latches 7 0;
      begun = eqb (get_or latches 8 0) 1;
      left = get_or latches 9 0;
    }

abbrev pub latches_of : GateState → List ℕ
latches_of s = packed_of s.flags ∷ latch_words s

abbrev pub gate_holds : GateCase → Bool
gate_holds (gate_case memory bottom waits resets regs latches clocks memory' regs' latches' finished) =
    let g = gate_run (board_with bottom waits) resets clocks (gate_from (case_state regs latches) memory) in
    same g.memory memory'
    && same g.state.regs regs'
    && same (latches_of g.state) latches'
    && eqb g.finished finished

-- ---- whether a gate run takes a memory with its bottom, resets and a state: 0, or the refusal's number, 1, 21, 22 or 4

pub data VerdictCase : Type 0 where
  verdict_case : (memory : List ℕ) (bottom : ℕ) (waits resets latches : List ℕ) (number : ℕ) → VerdictCase

abbrev pub verdict_holds : VerdictCase → Bool
verdict_holds (verdict_case memory bottom waits resets latches number) =
    eqb (verdict_number (gate_verdict memory (board_with bottom waits) resets (case_state [] latches))) number

-- ---- whether a run of the interpreter takes a memory with its bottom and a list position: 0, or the refusal's number, 1, 21 or 4

pub data StartCase : Type 0 where
  start_case : (memory : List ℕ) (bottom : ℕ) (waits : List ℕ) (position number : ℕ) → StartCase

abbrev pub start_holds : StartCase → Bool
start_holds (start_case memory bottom waits position number) = eqb (verdict_number (run_verdict memory (board_with bottom waits) position)) number

-- ---- the numbers, from i, of the cases that do not hold

abbrev pub failures : {Case : Type 0} → (Case → Bool) → ℕ → List Case → List ℕ
failures holds i [] = []
failures holds i (c ∷ cs) = cond (holds c) (failures holds (suc i) cs) (i ∷ failures holds (suc i) cs)
