-- CR 7: what a gate run does after its last reset, and demand 3 counted from there. The state that the run starts in is any, of any row, 12
-- too.
use Rattle.std.specs.Prelude.{ℕ, ◌+◌, ◌-◌, ◌<◌, ◌≡◌, true, false, List, []}
use Rattle.model.specs.declared.GateState.{GateState}
use Rattle.model.specs.Board.{Board}
use Rattle.model.specs.Resets.{is_reset}
use Rattle.model.specs.Interpreter.{Run, interpret}
use Rattle.model.specs.GateMachine.{Gate, gate, reset_state, gate_run}
use Rattle.model.specs.Agreement.{gate_from, interpreter_from, Agrees}
use Rattle.model.specs.Continuations.{gate_sum}

-- ---- the last reset

-- clock number c is a reset, and none of the k clocks after it is
pub record LastReset (resets : List ℕ) (c k : ℕ) : Type 0 where
  pub held : is_reset resets c ≡ true
  pub last : (i : ℕ) → i < k → is_reset resets (c + 1 + i) ≡ false

-- any number of clocks has no reset or a last one
pub data Resetting (resets : List ℕ) : (clocks : ℕ) → Type 0 where
  none : {k : ℕ} → ((i : ℕ) → i < k → is_reset resets i ≡ false) → Resetting resets k
  some : {c k : ℕ} → LastReset resets c k → Resetting resets (c + 1 + k)

abbrev pub EveryRun : Type 0
EveryRun = (resets : List ℕ) (k : ℕ) → Resetting resets k

-- ---- what follows it

-- a run with no reset among its clocks is one without resets
abbrev pub WithoutReset : Type 0
WithoutReset =
    (board : Board) (resets : List ℕ) (k : ℕ) (g : Gate) → ((i : ℕ) → i < k → is_reset resets i ≡ false)
    → gate_run board resets k g ≡ gate_run board [] k g

-- the k clocks after the last reset are a run without resets from what the reset left, and the counts add up
abbrev pub AfterReset : Type 0
AfterReset =
    (board : Board) (resets : List ℕ) (s : GateState) (memory : List ℕ) (c k : ℕ) → LastReset resets c k →
    let before = gate_run board resets c (gate_from s memory) in
    gate_run board resets (c + 1 + k) (gate_from s memory)
    ≡ gate_sum before (gate_run board [] k (gate_from (reset_state before.state) before.memory))

-- ---- demand 3

-- a gate run, with the instructions that finished in it after its first part
abbrev pub since : (first whole : Gate) → Gate
since first whole = gate whole.state whole.memory (whole.finished - first.finished)

-- Demand 3 after a reset: of c + 1 clocks, the last one the last reset, and k more, and of the interpreter from what those c + 1 left.
-- The run's count is the instructions that finished up to the reset and those that finished since.
pub record AgreesSince (n k : ℕ) (i : Run) (first whole : Gate) : Type 0 where
  pub counts : whole.finished ≡ first.finished + (since first whole).finished
  pub agrees : Agrees n k i (since first whole)

abbrev pub AgreementAfterReset : Type 0
AgreementAfterReset =
    (board : Board) (resets : List ℕ) (s : GateState) (memory : List ℕ) (n c k : ℕ) → LastReset resets c k →
    let first = gate_run board resets (c + 1) (gate_from s memory) in
    AgreesSince n k
    (interpret board n (interpreter_from first.state first.memory))
    first
    (gate_run board resets (c + 1 + k) (gate_from s memory))
