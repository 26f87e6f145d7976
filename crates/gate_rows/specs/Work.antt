-- What a row's work leaves: the model's work, with the next row taken from a step of the table. Document 01, "Clocks"; CR 5 and CR 6.
use Rattle.std.specs.Prelude.{ℕ, ◌+◌, ◌≡◌, Bool, cond, List, [], ◌∷◌, get_or}
use Rattle.model.specs.declared.Operand.{Operand}
use Rattle.model.specs.declared.GateState.{GateState}
use Rattle.model.specs.Words.{is_instruction, word_at}
use Rattle.model.specs.Operands.{operand_a, operand_b, in_memory}
use Rattle.model.specs.Alu.{stores}
use Rattle.model.specs.GateMachine.{state_with, gate, with_row, work}
use Rattle.step_table.specs.declared.Step.{Step}
use Rattle.gate_rows.specs.declared.latches.Latches.{Latches}

-- registers and latches are a state of the gate machine
abbrev pub state_of : List ℕ → Latches → GateState
state_of regs s =
    state_with regs s.flags s.row s.instruction s.address s.a s.b s.result s.position s.begun s.left

-- what a row does to the latches alone: f of the state, whatever the registers
abbrev pub Becomes : Latches → (GateState → GateState) → Latches → Type 0
Becomes s f s' = (regs : List ℕ) → state_of regs s' ≡ f (state_of regs s)

-- ---- where a step leads

-- from row 1 with the word that was read, from the row of an operand o, and from row 7
abbrev pub read_row : Step → ℕ → ℕ
read_row step word = cond (is_instruction word) step.memory step.skipped

abbrev pub operand_row : Step → Operand → ℕ
operand_row step o = cond (in_memory o) step.memory step.direct

abbrev pub store_row : Step → GateState → ℕ
store_row step s = cond (stores s.instruction s.flags) (operand_row step (operand_b s.instruction)) step.skipped

-- from each row
abbrev pub next_rows : Step → GateState → List ℕ → List ℕ
next_rows step s memory =
    step.memory
    ∷ read_row step (word_at memory s.address)
    ∷ step.memory
    ∷ operand_row step (operand_a s.instruction)
    ∷ step.memory
    ∷ operand_row step (operand_b s.instruction)
    ∷ step.memory
    ∷ store_row step s
    ∷ step.memory
    ∷ step.memory
    ∷ step.memory
    ∷ step.memory
    ∷ step.memory
    ∷ []

-- from row r; past the table the row stays
abbrev pub leads : Step → GateState → List ℕ → ℕ → ℕ
leads step s memory r = get_or (next_rows step s memory) r s.row

-- ---- the contract of a row's work

-- the state and the memory after the model's work, but that the step says where it leads
pub record Works (bottom : ℕ) (s : Latches) (step : Step) (regs memory : List ℕ) (s' : Latches) (regs' memory' : List ℕ) : Type 0 where
  pub state : state_of regs' s' ≡ with_row (leads step (state_of regs s) memory s.row) (work bottom (gate (state_of regs s) memory 0)).state
  pub words : memory' ≡ (work bottom (gate (state_of regs s) memory 0)).memory

-- ---- the count

-- the instructions that have finished, one more where the row finishes one
abbrev pub counted : Bool → ℕ → ℕ
counted finishes f = cond finishes (f + 1) f
