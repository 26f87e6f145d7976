-- Laws for the row functions: a row's work from what its function leaves, and the rows that prepare an operand.
use Prim.Native.Nat.{ℕ, ◌≤◌}
use mathlib.Core.Path.{◌≡◌, refl, sym, ap, ◌∙◌}
use mathlib.Core.Bool.{Bool, true, false, cond}
use mathlib.Core.List.{List}
use lib.ListN.{get_or, get_or-eq_default}
use Rattle.model.specs.declared.Operand.{Operand}
use Rattle.model.specs.declared.GateState.{GateState}
use Rattle.model.specs.Operands.{operand_a, operand_b, in_memory, step_down, register_word}
use Rattle.model.specs.GateMachine.{Gate, gate, with_row, with_regs, with_address, with_a, with_b, prepare, rows, work}
use Rattle.step_table.specs.declared.Step.{Step}
use Rattle.gate_rows.specs.declared.latches.Latches.{Latches}
use Rattle.gate_rows.specs.Work.{state_of, operand_row, next_rows, leads, Works}

-- the model's row n, on registers, latches and memory
abbrev row_of : (bottom : ℕ) → ℕ → Latches → List ℕ → List ℕ → Gate
row_of bottom n s regs memory = get_or (rows bottom) n (λ g. g) (gate (state_of regs s) memory 0)

-- what a row's function leaves is the work of the machine in that row
pub by : {bottom : ℕ} {s : Latches} {step : Step} {regs memory : List ℕ} (n : ℕ) → s.row ≡ n
    → {s' : Latches} {regs' memory' : List ℕ}
    → state_of regs' s' ≡ with_row (leads step (state_of regs s) memory n) (row_of bottom n s regs memory).state → memory' ≡ (row_of bottom n s regs memory).memory
    → Works bottom s step regs memory s' regs' memory'
unfolding work
by {bottom} {s} {step} {regs} {memory} n e p q =
    record {
      state = p ∙ ap (λ (k : ℕ). with_row (leads step (state_of regs s) memory k) (row_of bottom k s regs memory).state) (sym e);
      words = q ∙ ap (λ (k : ℕ). (row_of bottom k s regs memory).memory) (sym e);
    }

-- past the table there is no work
pub past-table : {bottom : ℕ} {s : Latches} {step : Step} {regs memory : List ℕ} → 13 ≤ s.row → Works bottom s step regs memory s regs memory
unfolding work
past-table {bottom} {s} {step} {regs} {memory} high =
    let g = gate (state_of regs s) memory 0 in
    let e : get_or (rows bottom) s.row (λ h. h) ≡ (λ (h : Gate). h) = get_or-eq_default (rows bottom) (λ h. h) {n = s.row} high in
    let l : leads step (state_of regs s) memory s.row ≡ s.row =
    get_or-eq_default (next_rows step (state_of regs s) memory) s.row {n = s.row} high in
    record {
      state = λ i. with_row (sym l i) (sym e i g).state;
      words = λ i. (sym e i g).memory;
    }

-- an operand prepared: the step says where it leads, and the rest is the model's row
prepares : (step : Step) (o : Operand) (latch : ℕ → GateState → GateState) (s : GateState) (read next : ℕ)
    → prepare o step.memory step.direct latch s ≡ with_row (operand_row step o) (prepare o read next latch s)
prepares step o latch s read next = go (in_memory o)
  where
    down : GateState
    down = with_regs (step_down o s.regs) s

    word : ℕ
    word = register_word o down.regs

    go : (b : Bool) → cond b (with_row step.memory (with_address word down)) (with_row step.direct (latch word down))
        ≡ with_row (cond b step.memory step.direct) (cond b (with_row read (with_address word down)) (with_row next (latch word down)))
    go true = refl
    go false = refl

-- the rows that prepare A and B
module _ {bottom : ℕ} {s : Latches} {step : Step} {regs memory : List ℕ} {s' : Latches} {regs' : List ℕ} {o : Operand} where
  pub by-3 : s.row ≡ 3 → o ≡ operand_a s.instruction
      → state_of regs' s' ≡ prepare o step.memory step.direct with_a (state_of regs s) → Works bottom s step regs memory s' regs' memory
  by-3 e f p = by 3 e (rw f at p ∙ prepares step (operand_a s.instruction) with_a (state_of regs s) 4 5) refl

  pub by-5 : s.row ≡ 5 → o ≡ operand_b s.instruction
      → state_of regs' s' ≡ prepare o step.memory step.direct with_b (state_of regs s) → Works bottom s step regs memory s' regs' memory
  by-5 e f p = by 5 e (rw f at p ∙ prepares step (operand_b s.instruction) with_b (state_of regs s) 6 7) refl
