-- CR 6: when a bottom is turned down, what the bottom of memory keeps, and that it changes nothing else: where nothing is stored below it, a
-- run, a file run and a gate run, with resets too (CR 7), do what they do with the bottom at 0.
use Rattle.std.specs.Prelude.{ℕ, zero, suc, ◌<◌, ◌≡◌, Bool, true, not, ◌&&◌, List, eqb, length, take, Ok, Err}
use Rattle.model.specs.declared.GateState.{GateState}
use Rattle.model.specs.declared.Refusal.{Refusal}
use Rattle.model.specs.declared.Refusal.TheVariants.{BottomTooHigh}
use Rattle.model.specs.Words.{present, store_word, alterable, store_above}
use Rattle.model.specs.Board.{Board, board_with}
use Rattle.model.specs.Resets.{is_reset}
use Rattle.model.specs.Interpreter.{goes_on, address_b, next_runs, stores_to_memory, Run, interpret}
use Rattle.model.specs.Journal.{Pair, fresh, run_noted}
use Rattle.model.specs.GateMachine.{Gate, remaining, gate_run}
use Rattle.model.specs.Refusals.{memory_fits, run_verdict, file_verdict, gate_verdict, Verdict}

-- ---- 21 directly after 2

-- a run, a file run, with whose reasons those of a traverse begin (CR 1), and a gate run under the board are judged so, whatever position,
-- resets and state
pub record Judged (memory : List ℕ) (board : Board) (v : Verdict) : Type 0 where
  pub run : (position : ℕ) → run_verdict memory board position ≡ v
  pub file : file_verdict memory board.bottom ≡ v
  pub gate : (resets : List ℕ) (s : GateState) → gate_verdict memory board resets s ≡ v

abbrev pub MemoryFirst : Type 0
MemoryFirst = (memory : List ℕ) (board : Board) (why : Refusal) → memory_fits memory ≡ Err why → Judged memory board (Err why)

abbrev pub BottomNext : Type 0
BottomNext =
    (memory : List ℕ) (board : Board) → memory_fits memory ≡ Ok tt → length memory < board.bottom → Judged memory board (Err BottomTooHigh)

-- ---- neither engine alters the words below the bottom

abbrev pub RunKeepsBottom : Type 0
RunKeepsBottom =
    (board : Board) (n : ℕ) (r : Run) →
    take board.bottom (interpret board n r).memory ≡ take board.bottom r.memory

abbrev pub GateKeepsBottom : Type 0
GateKeepsBottom =
    (board : Board) (resets : List ℕ) (k : ℕ) (g : Gate) →
    take board.bottom (gate_run board resets k g).memory ≡ take board.bottom g.memory

-- ---- "never stores below P"

-- what happens at none of the first n
unfoldable pub never : (happens : ℕ → Bool) → ℕ → Bool
never happens zero = true
never happens (suc n) = never happens n && not (happens n)

-- the next instruction runs, and stores to memory below the bottom
abbrev pub stores_below : (bottom : ℕ) → Run → Bool
stores_below bottom r =
    let memory = r.memory in
    let m = r.machine in
    goes_on r.ending && next_runs memory m && stores_to_memory memory m && not (alterable bottom (address_b memory m))

-- none of n instructions does, run on a board
abbrev pub never_stores_below : (bottom : ℕ) → Board → ℕ → Run → Bool
never_stores_below bottom board n r = never (λ i. stores_below bottom (interpret board i r)) n

-- the next clock is no reset (CR 7) and completes row 9, at an address below the bottom
abbrev pub clock_stores_below : (bottom : ℕ) → Board → (held : Bool) → Gate → Bool
clock_stores_below bottom board held g =
    let s = g.state in
    not held && eqb s.row 9 && present g.memory s.address && eqb (remaining board.waits s) 0 && not (alterable bottom s.address)

-- none of k clocks does
abbrev pub no_clock_stores_below : (bottom : ℕ) → Board → (resets : List ℕ) → ℕ → Gate → Bool
no_clock_stores_below bottom board resets k g = never (λ i. clock_stores_below bottom board (is_reset resets i) (gate_run board resets i g)) k

-- ---- as with the bottom at 0

-- 0 is the old machine: every store is one of document 01
abbrev pub LevelStores : Type 0
LevelStores = (memory : List ℕ) (address word : ℕ) → store_above 0 memory address word ≡ store_word memory address word

-- the board with its bottom at 0
abbrev pub level : Board → Board
level board = board_with 0 board.waits

-- run and file run: the same machine, memory, position, counts and ending, and the same journal, whatever its room and its pairs (CR 11)
pub record SameRun (board : Board) (n : ℕ) (r : Run) : Type 0 where
  pub run : interpret board n r ≡ interpret (level board) n r
  pub journal : (room : ℕ) (pairs : List Pair) → run_noted board room n (fresh r pairs) ≡ run_noted (level board) room n (fresh r pairs)

abbrev pub RunAsLevel : Type 0
RunAsLevel = (board : Board) (n : ℕ) (r : Run) → never_stores_below board.bottom board n r ≡ true → SameRun board n r

-- gate run: the same state, memory and count
abbrev pub GateAsLevel : Type 0
GateAsLevel =
    (board : Board) (resets : List ℕ) (k : ℕ) (g : Gate) → no_clock_stores_below board.bottom board resets k g ≡ true
    → gate_run board resets k g ≡ gate_run (level board) resets k g

-- whether a program stores below the bottom is the same with the bottom in force and with the bottom at 0
abbrev pub NeverAsLevel : Type 0
NeverAsLevel =
    (board : Board) (n : ℕ) (r : Run) → never_stores_below board.bottom board n r ≡ never_stores_below board.bottom (level board) n r

abbrev pub NoClockAsLevel : Type 0
NoClockAsLevel =
    (board : Board) (resets : List ℕ) (k : ℕ) (g : Gate) →
    no_clock_stores_below board.bottom board resets k g ≡ no_clock_stores_below board.bottom (level board) resets k g

-- what is not turned down with a bottom is not turned down with the bottom at 0
pub record LevelAccepted (memory : List ℕ) (board : Board) : Type 0 where
  pub run : (position : ℕ) → run_verdict memory board position ≡ Ok tt → run_verdict memory (level board) position ≡ Ok tt
  pub file : file_verdict memory board.bottom ≡ Ok tt → file_verdict memory 0 ≡ Ok tt
  pub gate : (resets : List ℕ) (s : GateState) → gate_verdict memory board resets s ≡ Ok tt
      → gate_verdict memory (level board) resets s ≡ Ok tt

abbrev pub AcceptedAsLevel : Type 0
AcceptedAsLevel = (memory : List ℕ) (board : Board) → LevelAccepted memory board
