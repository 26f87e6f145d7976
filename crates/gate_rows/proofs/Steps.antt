-- A row's work with its own step of the table: it leads where the model's row does, and finishes an instruction where that does.
use Prim.Native.Nat.{ℕ, ◌+◌}
use mathlib.Core.Path.{◌≡◌, refl, sym, ap, ◌∙◌}
use mathlib.Core.Bool.{Bool, true, false, cond}
use mathlib.Core.List.{List}
use native.Mathlib.Nat.{add-zero}
use lib.ListN.{get_or}
use Rattle.arithmetic.specs.Words.{as_number}
use Rattle.model.specs.declared.GateState.{GateState}
use Rattle.model.specs.Operands.{operand_a, operand_b, in_memory}
use Rattle.model.specs.GateMachine.{Gate, gate, with_row, rows, work}
use Rattle.model.proofs.Cases.{Each, past, ◌▸◌}
use Rattle.step_table.specs.declared.Step.{Step}
use Rattle.step_table.specs.Table.{step_table, step_of, marks_finish, marks_stay}
use Rattle.step_table.proofs.Table.{stay_mark}
use Rattle.gate_rows.specs.declared.latches.Latches.{Latches}
use Rattle.gate_rows.specs.Work.{state_of, leads, Works, counted}

-- a count goes up by one or stays
pub counted_is : (b : Bool) (f : ℕ) → f + as_number b ≡ counted b f
counted_is true f = refl
counted_is false f = add-zero f

-- the model's row n from state s, with the step of row n, after f instructions
abbrev by-step : (bottom : ℕ) → ℕ → GateState → List ℕ → ℕ → Gate
by-step bottom n s memory f =
    let g = get_or (rows bottom) n (λ h. h) (gate s memory 0) in
    gate (with_row (leads (step_of n) s memory n) g.state) g.memory (counted (marks_finish (step_of n)) f)

branch : (b : Bool) (x y : ℕ) (u v : GateState) → u.row ≡ x → v.row ≡ y → cond b x y ≡ (cond b u v).row
branch true x y u v p q = sym p
branch false x y u v p q = sym q

same_row : (x : ℕ) (s : GateState) → x ≡ s.row → with_row x s ≡ s
same_row x s e = rw e

-- row n's step does its work
step-rows : (bottom : ℕ) (s : GateState) (memory : List ℕ) (f : ℕ) → Each (λ n. by-step bottom n s memory f ≡ get_or (rows bottom) n (λ g. g) (gate s memory f))
unfolding step_of step_table
step-rows bottom s memory f =
    refl ▸ refl ▸ refl
    ▸ ap (λ (t : GateState). gate t memory f) (same_row _ _ (branch (in_memory (operand_a s.instruction)) 4 5 _ _ refl refl))
    ▸ refl
    ▸ ap (λ (t : GateState). gate t memory f) (same_row _ _ (branch (in_memory (operand_b s.instruction)) 6 7 _ _ refl refl))
    ▸ refl ▸ refl ▸ refl ▸ refl ▸ refl ▸ refl ▸ refl
    ▸ past (λ n. refl)

-- with its own step of the table, a row's function does the model's work
pub worked : (bottom : ℕ) (s : Latches) (step : Step) (regs memory : List ℕ) → step ≡ step_of s.row
    → {s' : Latches} {regs' memory' : List ℕ} → Works bottom s step regs memory s' regs' memory'
    → (f : ℕ) → gate (state_of regs' s') memory' (counted (marks_finish step) f) ≡ work bottom (gate (state_of regs s) memory f)
unfolding work
worked bottom s step regs memory e w f =
    (λ i. gate (w.state i) (w.words i) (counted (marks_finish step) f))
    ∙ ap
    (λ (t : Step).
    let g = get_or (rows bottom) s.row (λ h. h) (gate (state_of regs s) memory 0) in
    gate (with_row (leads t (state_of regs s) memory s.row) g.state) g.memory (counted (marks_finish t) f))
    e
    ∙ (step-rows bottom (state_of regs s) memory f).at s.row

-- where the step says that the machine stays, it is in row 12 after the row's work
pub stays_on : (bottom : ℕ) (s : Latches) (step : Step) (regs memory : List ℕ) → step ≡ step_of s.row → marks_stay step ≡ true
    → {s' : Latches} {regs' memory' : List ℕ} → Works bottom s step regs memory s' regs' memory' → s'.row ≡ 12
unfolding step_of step_table
stays_on bottom s step regs memory own stays w =
    let in-12 : s.row ≡ 12 = stay_mark s.row (sym (ap marks_stay own) ∙ stays) in
    let last : step ≡ step_of 12 = own ∙ ap step_of in-12 in
    ap (λ (t : GateState). t.row) w.state ∙ ap (leads step (state_of regs s) memory) in-12 ∙ ap (λ (t : Step). t.memory) last
