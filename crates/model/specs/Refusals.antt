-- Why a call is turned down: the reasons' numbers, what a call leaves, the limits, and the first reason that applies to each run. Document
-- 01, "Why a call is turned down"; CR 1, CR 3, CR 5, CR 6, CR 7 and CR 11.
use Rattle.std.specs.Prelude.{ℕ, Bool, true, false, cond, ◌&&◌, List, eqb, ltb, leb, length, Ok, Err, Result}
use Rattle.model.specs.declared.GateState.{GateState}
use Rattle.model.specs.declared.Refusal.{Refusal}
use Rattle.model.specs.declared.Refusal.TheVariants.{NoWords, TooManyWords, LongWaitList, BadGateState, ShortOutput, CutImage, WrongTag, WrongLength, WrongVersion, BadFlag, BadWordCount, ShortMemory, TrailingBytes, TooManyFiles, FileMisplaced, WordsMismatched, BottomTooHigh, ResetsNotRising}
use Rattle.model.specs.Waits.{position_fits}
use Rattle.model.specs.Board.{Board}
use Rattle.model.specs.Resets.{rises}
use Rattle.model.specs.GateMachine.{is_access}

abbrev pub refusal_number : Refusal → ℕ
refusal_number NoWords = 1
refusal_number TooManyWords = 2
refusal_number LongWaitList = 3
refusal_number BadGateState = 4
refusal_number ShortOutput = 7
refusal_number CutImage = 8
refusal_number WrongTag = 9
refusal_number WrongLength = 10
refusal_number WrongVersion = 11
refusal_number BadFlag = 12
refusal_number BadWordCount = 13
refusal_number ShortMemory = 14
refusal_number TrailingBytes = 15
refusal_number TooManyFiles = 16
refusal_number FileMisplaced = 17
refusal_number WordsMismatched = 18
refusal_number BottomTooHigh = 21
refusal_number ResetsNotRising = 22

-- whether a call is carried out, or why not
abbrev pub Verdict : Type 0
Verdict = Result (Unit {0}) Refusal

-- 0 for a call that is carried out
abbrev pub verdict_number : Verdict → ℕ
verdict_number (Ok u) = 0
verdict_number (Err why) = refusal_number why

-- what a call leaves of what it was lent: what it makes of it where it is carried out, or as it was
abbrev pub left_by : Verdict → (made former : List ℕ) → List ℕ
left_by (Ok u) made former = made
left_by (Err why) made former = former

abbrev pub most_words : ℕ
most_words = 16_777_216

abbrev pub most_waits : ℕ
most_waits = 65_536

-- refused unless something holds; of two verdicts the first refusal
abbrev pub demand : Bool → Refusal → Verdict
demand true why = Ok tt
demand false why = Err why

infixr 20 ◌then◌
abbrev pub ◌then◌ : Verdict → Verdict → Verdict
Ok u then v = v
Err why then v = Err why

-- 1 and 2, of the memory that a run or the writer is lent
abbrev pub memory_fits : List ℕ → Verdict
memory_fits memory = demand (ltb 0 (length memory)) NoWords then demand (leb (length memory) most_words) TooManyWords

-- 21, of the bottom that is given with a run's memory
abbrev pub bottom_fits : List ℕ → ℕ → Verdict
bottom_fits memory bottom = demand (leb bottom (length memory)) BottomTooHigh

-- 3
abbrev pub waits_fit : List ℕ → Verdict
waits_fit waits = demand (leb (length waits) most_waits) LongWaitList

-- CR 7: 22, of the whole list, numbers at or past the clocks of the run too
abbrev pub resets_fit : List ℕ → Verdict
resets_fit resets = demand (rises resets) ResetsNotRising

-- CR 7: 4, of the list position that the interpreter is given
abbrev pub start_fits : (waits : List ℕ) → (position : ℕ) → Verdict
start_fits waits position = demand (position_fits waits position) BadGateState

-- 4, of a gate state: a row above 12 (CR 5), a position that does not fit the list (CR 3), an access begun outside rows 1, 4, 6, 9 or with no
-- clocks left, clocks left with none begun
abbrev pub access_formed : GateState → Bool
access_formed s = cond s.begun (is_access s.row && ltb 0 s.left) (eqb s.left 0)

abbrev pub state_fits : (waits : List ℕ) → GateState → Verdict
state_fits waits s = demand (leb s.row 12 && position_fits waits s.position && access_formed s) BadGateState

-- ---- the first reason to turn down a run, a file run, a gate run

unfoldable pub run_verdict : (memory : List ℕ) → Board → (position : ℕ) → Verdict
run_verdict memory board position =
    memory_fits memory then bottom_fits memory board.bottom then waits_fit board.waits then start_fits board.waits position

-- CR 11: 5 and 6 are given no longer
unfoldable pub file_verdict : (memory : List ℕ) → (bottom : ℕ) → Verdict
file_verdict memory bottom = memory_fits memory then bottom_fits memory bottom

unfoldable pub gate_verdict : (memory : List ℕ) → Board → (resets : List ℕ) → GateState → Verdict
gate_verdict memory board resets s =
    memory_fits memory then bottom_fits memory board.bottom then waits_fit board.waits then resets_fit resets then state_fits board.waits s
