-- The interpreter: one instruction in the order (i) to (vi), its clocks, and the run of n instructions with "outside" and "no
-- instruction". Document 01, "Machine and instruction word" and, for the clocks, "Clocks"; CR 5 to CR 7.
use Rattle.std.specs.Prelude.{ℕ, zero, suc, ◌+◌, Bool, true, false, cond, ◌&&◌, List}
use Rattle.arithmetic.specs.declared.AluOut.{AluOut}
use Rattle.arithmetic.specs.Words.{as_number}
use Rattle.model.specs.declared.Flags.{Flags}
use Rattle.model.specs.declared.Machine.{Machine}
use Rattle.model.specs.declared.Operand.{Operand}
use Rattle.model.specs.declared.Ending.{Ending}
use Rattle.model.specs.declared.Ending.TheVariants.{Finished, Outside, NoInstruction}
use Rattle.model.specs.Words.{inc, is_instruction, word_at, present, alterable}
use Rattle.model.specs.Operands.{operand_a, operand_b, in_memory, stepped, step_down, step_up, register_word, operand_present, operand_value, store_in_register, store_in_memory}
use Rattle.model.specs.Alu.{alu, flags_after, stores}
use Rattle.model.specs.Waits.{wait_sum, position_after}
use Rattle.model.specs.Board.{Board}

-- ---- the clocks of an instruction, from where its operands are and whether its result is stored

-- 8, and 1 each for A in memory, B in memory and a store of either kind; its waits come on top
abbrev pub cost_of : (mem_a mem_b stored : Bool) → ℕ
cost_of mem_a mem_b stored = 8 + as_number mem_a + as_number mem_b + as_number stored

-- the fetch, A in memory, B in memory, a store to memory
abbrev pub accesses_of : (mem_a mem_b stored : Bool) → ℕ
accesses_of mem_a mem_b stored = 1 + as_number mem_a + as_number mem_b + as_number (stored && mem_b)

-- ---- endings

-- a run goes on with the next instruction where it has not stopped before one
abbrev pub goes_on : Ending → Bool
goes_on Finished = true
goes_on Outside = false
goes_on NoInstruction = false

-- CR 5, why an instruction does not run: its address is missing, "outside"; its word is none, "no instruction"; an address of its A or B is
-- missing, "outside". Where it runs, `Finished`.
abbrev pub ending_by : (fetch word operands : Bool) → Ending
ending_by fetch word operands = cond fetch (cond word (cond operands Finished Outside) NoInstruction) Outside

-- ---- one instruction, from a memory and a machine

abbrev pub machine_with : List ℕ → Flags → Machine
machine_with regs flags = record { regs = regs; flags = flags }

module _ (memory : List ℕ) (m : Machine) where
  -- (i) fetch
  abbrev pub pc : ℕ
  pc = word_at m.regs 0

  abbrev pub instruction : ℕ
  instruction = word_at memory pc

  abbrev pub op_a : Operand
  op_a = operand_a instruction

  abbrev pub op_b : Operand
  op_b = operand_b instruction

  abbrev pub regs_fetched : List ℕ
  regs_fetched = stepped inc 0 m.regs

  -- (ii) and (iii) step down and take A, then B
  abbrev pub regs_a : List ℕ
  regs_a = step_down op_a regs_fetched

  abbrev pub value_a : ℕ
  value_a = operand_value op_a regs_a memory

  abbrev pub regs_b : List ℕ
  regs_b = step_down op_b regs_a

  abbrev pub value_b : ℕ
  value_b = operand_value op_b regs_b memory

  -- B's address, where it is in memory
  abbrev pub address_b : ℕ
  address_b = register_word op_b regs_b

  abbrev pub present_a : Bool
  present_a = operand_present op_a regs_a memory

  abbrev pub present_b : Bool
  present_b = operand_present op_b regs_b memory

  -- why it does not run, and whether it does
  abbrev pub next_ending : Ending
  next_ending = ending_by (present memory pc) (is_instruction instruction) (present_a && present_b)

  abbrev pub next_runs : Bool
  next_runs = goes_on next_ending

  -- (iv) compute, set the permitted flags, store into B
  abbrev pub alu_out : AluOut
  alu_out = alu instruction m.flags value_a value_b

  abbrev pub flags_set : Flags
  flags_set = flags_after instruction m.flags alu_out

  abbrev pub is_stored : Bool
  is_stored = stores instruction m.flags

  abbrev pub stores_to_memory : Bool
  stores_to_memory = is_stored && in_memory op_b

  abbrev pub regs_stored : List ℕ
  regs_stored = cond is_stored (store_in_register op_b alu_out.result regs_b) regs_b

  abbrev pub next_memory : (bottom : ℕ) → List ℕ
  next_memory bottom = cond is_stored (store_in_memory bottom op_b alu_out.result regs_b memory) memory

  -- CR 6: whether it stores to a word of memory that can be altered
  abbrev pub alters_memory : (bottom : ℕ) → Bool
  alters_memory bottom = stores_to_memory && alterable bottom address_b

  -- (v) and (vi) step A, then B up
  abbrev pub next_machine : Machine
  next_machine = machine_with (step_up op_b (step_up op_a regs_stored)) flags_set

  -- clocks without waits, and the number of accesses
  abbrev pub base_clocks : ℕ
  base_clocks = cost_of (in_memory op_a) (in_memory op_b) is_stored

  abbrev pub accesses : ℕ
  accesses = accesses_of (in_memory op_a) (in_memory op_b) is_stored

-- ---- the run of n instructions

-- a run so far: the instructions that ran, their clocks, and the position in the wait list
pub record Run : Type 0 where
  pub machine : Machine
  pub memory : List ℕ
  pub position : ℕ
  pub ran : ℕ
  pub clocks : ℕ
  pub ending : Ending

-- CR 7: from a position in the wait list
abbrev pub begin : Machine → List ℕ → (position : ℕ) → Run
begin m memory position =
    record { machine = m; memory = memory; position = position; ran = 0; clocks = 0; ending = Finished }

-- one more instruction, and the stop before one
unfoldable pub execute : Board → Run → Run
execute board r =
    let n = accesses r.memory r.machine in
    record {
      machine = next_machine r.memory r.machine;
      memory = next_memory r.memory r.machine board.bottom;
      position = position_after board.waits r.position n;
      ran = r.ran + 1;
      clocks = r.clocks + (base_clocks r.memory r.machine + wait_sum board.waits r.position n);
      ending = Finished;
    }

unfoldable pub stop : Ending → Run → Run
stop e r =
    record {
      machine = r.machine;
      memory = r.memory;
      position = r.position;
      ran = r.ran;
      clocks = r.clocks;
      ending = e;
    }

-- a run that has stopped stays as it is
unfoldable pub advance : Board → Run → Run
advance board r =
    let memory = r.memory in
    let m = r.machine in
    cond (goes_on r.ending) (cond (next_runs memory m) (execute board r) (stop (next_ending memory m) r)) r

unfoldable pub interpret : Board → ℕ → Run → Run
interpret board zero r = r
interpret board (suc n) r = advance board (interpret board n r)
