-- The gate machine: thirteen rows of a step table, the access protocol, one clock, reset, and the run of k clocks. Document 01, "Clocks";
-- CR 5, CR 6 and CR 7.
use Rattle.std.specs.Prelude.{ℕ, zero, suc, ◌+◌, ◌-◌, Bool, true, false, cond, List, [], ◌∷◌, get_or, set}
use Rattle.model.specs.declared.Flags.{Flags}
use Rattle.model.specs.declared.Operand.{Operand}
use Rattle.model.specs.declared.GateState.{GateState}
use Rattle.model.specs.Words.{inc, is_instruction, word_at, present, store_above}
use Rattle.model.specs.Operands.{operand_a, operand_b, in_memory, stepped, step_down, step_up, register_word, set_register}
use Rattle.model.specs.Alu.{alu, flags_after, stores}
use Rattle.model.specs.Waits.{wait_at, next_position}
use Rattle.model.specs.Board.{Board}
use Rattle.model.specs.Resets.{is_reset}

-- ---- a state, part by part, and with one part changed

abbrev pub state_with : List ℕ → Flags → (row instruction address a b result position : ℕ) → (begun : Bool) → (left : ℕ) → GateState
state_with regs flags row instruction address a b result position begun left =
    record {
      regs = regs;
      flags = flags;
      row = row;
      instruction = instruction;
      address = address;
      a = a;
      b = b;
      result = result;
      position = position;
      begun = begun;
      left = left;
    }

abbrev pub with_row : ℕ → GateState → GateState
with_row x s =
    state_with s.regs s.flags x s.instruction s.address s.a s.b s.result s.position s.begun s.left

abbrev pub with_regs : List ℕ → GateState → GateState
with_regs x s =
    state_with x s.flags s.row s.instruction s.address s.a s.b s.result s.position s.begun s.left

abbrev pub with_flags : Flags → GateState → GateState
with_flags x s =
    state_with s.regs x s.row s.instruction s.address s.a s.b s.result s.position s.begun s.left

abbrev pub with_instruction : ℕ → GateState → GateState
with_instruction x s =
    state_with s.regs s.flags s.row x s.address s.a s.b s.result s.position s.begun s.left

abbrev pub with_address : ℕ → GateState → GateState
with_address x s =
    state_with s.regs s.flags s.row s.instruction x s.a s.b s.result s.position s.begun s.left

abbrev pub with_a : ℕ → GateState → GateState
with_a x s =
    state_with s.regs s.flags s.row s.instruction s.address x s.b s.result s.position s.begun s.left

abbrev pub with_b : ℕ → GateState → GateState
with_b x s =
    state_with s.regs s.flags s.row s.instruction s.address s.a x s.result s.position s.begun s.left

abbrev pub with_result : ℕ → GateState → GateState
with_result x s =
    state_with s.regs s.flags s.row s.instruction s.address s.a s.b x s.position s.begun s.left

-- the access in hand: position in the wait list, whether it has begun, clocks left
abbrev pub with_access : ℕ → Bool → ℕ → GateState → GateState
with_access p begun left s =
    state_with s.regs s.flags s.row s.instruction s.address s.a s.b s.result p begun left

-- ---- the whole machine

-- between instructions, with nothing latched and no access begun
abbrev pub at_rest : List ℕ → Flags → GateState
at_rest regs flags = state_with regs flags 0 0 0 0 0 0 0 false 0

-- the machine with its memory, and the instructions that have finished
pub record Gate : Type 0 where
  pub state : GateState
  pub memory : List ℕ
  pub finished : ℕ

abbrev pub gate : GateState → List ℕ → ℕ → Gate
gate s memory finished = record { state = s; memory = memory; finished = finished }

-- ---- the step table

-- the work of a row, with where it leads; most rows change the state alone
abbrev pub on_state : (List ℕ → GateState → GateState) → Gate → Gate
on_state f g = gate (f g.memory g.state) g.memory g.finished

abbrev pub address_pc : List ℕ → GateState → GateState
address_pc memory s = with_row 1 (with_address (word_at s.regs 0) s)

-- CR 5: a word that is no instruction leads to row 12
abbrev pub read_instruction : List ℕ → GateState → GateState
read_instruction memory s =
    let word = word_at memory s.address in
    with_row (cond (is_instruction word) 2 12) (with_instruction word s)

abbrev pub step_pc : List ℕ → GateState → GateState
step_pc memory s = with_row 3 (with_regs (stepped inc 0 s.regs) s)

-- step an operand's register down; then its word is the address, or the operand where that is direct
abbrev pub prepare : Operand → (read next : ℕ) → (ℕ → GateState → GateState) → GateState → GateState
prepare o read next latch s =
    let down = with_regs (step_down o s.regs) s in
    let word = register_word o down.regs in
    cond (in_memory o) (with_row read (with_address word down)) (with_row next (latch word down))

abbrev pub prepare_a : List ℕ → GateState → GateState
prepare_a memory s = prepare (operand_a s.instruction) 4 5 with_a s

abbrev pub read_a : List ℕ → GateState → GateState
read_a memory s = with_row 5 (with_a (word_at memory s.address) s)

abbrev pub prepare_b : List ℕ → GateState → GateState
prepare_b memory s = prepare (operand_b s.instruction) 6 7 with_b s

abbrev pub read_b : List ℕ → GateState → GateState
read_b memory s = with_row 7 (with_b (word_at memory s.address) s)

abbrev pub compute : List ℕ → GateState → GateState
compute memory s =
    let out = alu s.instruction s.flags s.a s.b in
    let store : ℕ = cond (in_memory (operand_b s.instruction)) 9 8 in
    with_row (cond (stores s.instruction s.flags) store 10)
    (with_flags (flags_after s.instruction s.flags out) (with_result out.result s))

abbrev pub write_register : List ℕ → GateState → GateState
write_register memory s =
    with_row 10 (with_regs (set_register (operand_b s.instruction) s.result s.regs) s)

-- CR 6: the store knows the bottom
abbrev pub write_memory : (bottom : ℕ) → Gate → Gate
write_memory bottom g =
    gate (with_row 10 g.state) (store_above bottom g.memory g.state.address g.state.result) g.finished

abbrev pub step_up_a : List ℕ → GateState → GateState
step_up_a memory s = with_row 11 (with_regs (step_up (operand_a s.instruction) s.regs) s)

abbrev pub step_up_b : Gate → Gate
step_up_b g =
    let s = g.state in
    gate (with_row 0 (with_regs (step_up (operand_b s.instruction) s.regs) s)) g.memory (g.finished + 1)

-- CR 5: row 12 does nothing, and leads to itself
abbrev pub halt : List ℕ → GateState → GateState
halt memory s = with_row 12 s

abbrev pub rows : (bottom : ℕ) → List (Gate → Gate)
rows bottom =
    on_state address_pc  -- 0: address from r0
    ∷ on_state read_instruction  -- 1: read instruction
    ∷ on_state step_pc  -- 2: r0 plus 1
    ∷ on_state prepare_a  -- 3: A step down; address, or latch A if direct
    ∷ on_state read_a  -- 4: read A
    ∷ on_state prepare_b  -- 5: as 3 for B
    ∷ on_state read_b  -- 6: read B
    ∷ on_state compute  -- 7: compute; decide storing on old flags; set flags
    ∷ on_state write_register  -- 8: store to register
    ∷ write_memory bottom  -- 9: store to memory
    ∷ on_state step_up_a  -- 10: A step up
    ∷ step_up_b  -- 11: B step up; one more finished
    ∷ on_state halt  -- 12: halted
    ∷ []

-- the work of the row that the machine is in; there is no row past the table
unfoldable pub work : (bottom : ℕ) → Gate → Gate
work bottom g = get_or (rows bottom) g.state.row (λ h. h) g

-- rows 1, 4, 6 and 9
abbrev pub access_rows : List Bool
access_rows = false ∷ true ∷ false ∷ false ∷ true ∷ false ∷ true ∷ false ∷ false ∷ true ∷ []

unfoldable pub is_access : ℕ → Bool
is_access row = get_or access_rows row false

-- ---- one clock

-- an access's clocks after this one, and its position in the wait list: its first clock takes an entry
unfoldable pub remaining : List ℕ → GateState → ℕ
remaining waits s = cond s.begun (s.left - 1) (wait_at waits s.position)

unfoldable pub position_now : List ℕ → GateState → ℕ
position_now waits s = cond s.begun s.position (next_position waits s.position)

-- an access with `remaining` clocks after this one: on the last one the row's work is done
unfoldable pub work_or_wait : (bottom remaining position : ℕ) → Gate → Gate
work_or_wait bottom zero p g = work bottom (on_state (λ memory. with_access p false 0) g)
work_or_wait bottom (suc w) p g = on_state (λ memory. with_access p true (suc w)) g

-- an absent address is never acknowledged
unfoldable pub clock : Board → Gate → Gate
clock board g =
    let s = g.state in
    let waits = board.waits in
    cond (is_access s.row)
    (cond (present g.memory s.address) (work_or_wait board.bottom (remaining waits s) (position_now waits s) g) g)
    (work board.bottom g)

-- ---- reset (CR 7), and the run

-- "r0 becomes 0, the row becomes 0 and a begun access is dropped, its wait entry used up": all else stays, the list position too
abbrev pub reset_state : GateState → GateState
reset_state s = with_row 0 (with_access s.position false 0 (with_regs (set s.regs 0 0) s))

-- a clock on which reset is held does no row's work, and so finishes nothing
abbrev pub reset_or_clock : Board → (held : Bool) → Gate → Gate
reset_or_clock board held g = cond held (on_state (λ memory. reset_state) g) (clock board g)

unfoldable pub gate_run : Board → (resets : List ℕ) → (clocks : ℕ) → Gate → Gate
gate_run board resets zero g = g
gate_run board resets (suc k) g = reset_or_clock board (is_reset resets k) (gate_run board resets k g)
