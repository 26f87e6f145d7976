-- A run with resets, as the code takes it apart: up to which clock it goes on without one, and what a reset does to the latches. CR 7.
use Rattle.std.specs.Prelude.{ℕ, ◌≡◌, cond, List, ltb, length, get_or, set}
use Rattle.model.specs.GateMachine.{reset_state}
use Rattle.gate_rows.specs.declared.latches.Latches.{Latches}
use Rattle.gate_rows.specs.Work.{state_of}

-- the number at place j of the list where that is below the clocks of the run, else the run's end
abbrev pub next_reset : (resets : List ℕ) → (j clocks : ℕ) → ℕ
next_reset resets j clocks = cond (ltb j (length resets)) (cond (ltb (get_or resets j 0) clocks) (get_or resets j 0) clocks) clocks

-- the latches after a reset, whatever the registers, of which r0 becomes 0
abbrev pub ResetLatches : Latches → Latches → Type 0
ResetLatches s s' = (regs : List ℕ) → state_of (set regs 0 0) s' ≡ reset_state (state_of regs s)
