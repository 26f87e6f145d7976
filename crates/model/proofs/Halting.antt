-- CR 5: where a run ends "no instruction" the gate machine comes to row 12 and stays.
use Prim.Native.Nat.{ℕ, ◌+◌, ◌≤◌, ◌<◌}
use mathlib.Core.Path.{◌≡◌, refl, sym, ap, ◌∙◌}
use mathlib.Core.Bool.{true, false}
use mathlib.Core.List.{[]}
use native.Mathlib.Decide.{dec_lt}
use native.Mathlib.Omega.{arith}
use Rattle.model.specs.Board.{Board}
use Rattle.model.specs.declared.GateState.{GateState}
use Rattle.model.specs.declared.Ending.TheVariants.{NoInstruction}
use Rattle.model.specs.Words.{is_instruction, present}
use Rattle.model.specs.Waits.{wait_at, next_position, wait_sum}
use Rattle.model.specs.Interpreter.{goes_on, pc, instruction, next_ending, Run, interpret}
use Rattle.model.specs.GateMachine.{Gate, gate, address_pc, work, is_access, clock, gate_run}
use Rattle.model.specs.Agreement.{machine_of, gate_from, interpreter_from}
use Rattle.model.specs.Halting.{halted_after, Halted, Halts, Halting}
use Rattle.model.proofs.Runs.{halting-word, stopped_by}
use Rattle.model.proofs.Clocks.{halted-stands}
use Rattle.model.proofs.Reach.{run-add, in_row}
use Rattle.model.proofs.Instruction.{idle, latched, reads, halts}
use Rattle.model.proofs.Blocked.{stands_on}
use Rattle.model.proofs.Agreed.{Follows, comes-idle, follows, begins}

module _ (board : Board) (g : Gate) (r : Run) (w : Follows board g r) (e : next_ending r.memory r.machine ≡ NoInstruction) (k : ℕ) where
  abbrev s : GateState
  s = w.state

  abbrev end : Gate
  end = gate (latched board r.memory s) r.memory r.ran

  word : (present r.memory (pc r.memory (machine_of s)) ≡ true) × (is_instruction (instruction r.memory (machine_of s)) ≡ false)
  word = rw w.machine at (halting-word r.memory r.machine e)

  still : clock board end ≡ end
  still = halts board r.memory s r.ran word.1

  abbrev due : ℕ
  due = halted_after board.waits r

  comes-to-end : gate_run board [] due g ≡ end
  unfolding wait_sum
  comes-to-end =
      let read = 2 + wait_sum board.waits s.position 1 in
      let total : due ≡ r.clocks + read = omega (arith, ap (wait_at board.waits) w.position) in
      ap (λ (i : ℕ). gate_run board [] i g) total
      ∙ run-add board r.clocks read g
      ∙ ap (gate_run board [] read) (comes-idle board g r w)
      ∙ (reads board r.memory s r.ran word.0).comes

  ends : due ≤ k → gate_run board [] k g ≡ end
  ends h = sym (stands_on board [] due k g (sym comes-to-end) still (λ c _ _. refl) h)

  -- on the clock before it the read is not done
  abbrev before : ℕ
  before = r.clocks + (1 + wait_at board.waits r.position)

  reading : (gate_run board [] before g).state.row ≡ 1
  unfolding clock work is_access gate_run
  reading =
      let wait = wait_at board.waits s.position in
      let total : before ≡ r.clocks + (1 + wait) = omega (arith, ap (wait_at board.waits) w.position) in
      ap (λ (g : Gate). g.state.row)
      (ap (λ (i : ℕ). gate_run board [] i g) total
      ∙ run-add board r.clocks (1 + wait) g
      ∙ ap (gate_run board [] (1 + wait)) (comes-idle board g r w)
      ∙ run-add board 1 wait (gate (idle s) r.memory r.ran))
      ∙ in_row board (address_pc r.memory (idle s)) r.memory r.ran refl word.0 s.position s.left wait refl

  not-before : (gate_run board [] k g).state.row ≡ 12 → Dec (k < due) → due ≤ k
  not-before q (no h) = omega arith
  not-before q (yes h) =
      let same = stands_on board [] k before g refl (halted-stands board (gate_run board [] k g) q) (λ c _ _. refl) (omega arith) in
      let x : ◌≡◌ {A = ℕ} 12 1 = sym q ∙ ap (λ (g : Gate). g.state.row) same ∙ reading in
      absurd (omega arith)

  end-halted : Halted board.waits r end
  end-halted =
      record {
        word = ap (instruction r.memory) (sym w.machine);
        position = ap (next_position board.waits) (sym w.position);
        begun = refl;
        machine = sym w.machine;
        memory = refl;
        finished = refl;
      }

  halted : Halts board.waits r k (gate_run board [] k g)
  halted =
      record {
        row = (λ q. not-before q (dec_lt k due), λ h. ap (λ (g : Gate). g.state.row) (ends h) ∙ rw word.1);
        halted = λ h. rw (ends h) end-halted;
      }

pub halting : Halting
halting board s memory n k h e =
    let first = interpreter_from s memory in
    let w = follows board (gate_from s memory) first (begins board memory s h) n in
    let why = stopped_by board n first refl (ap goes_on e) in
    halted board (gate_from s memory) (interpret board n first) w (sym why ∙ e) k
