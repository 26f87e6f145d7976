-- One instruction as the code does it in parts, and as a whole: what each part leaves, from the definitions of model. Document 01, "Machine
-- and instruction word", the order (i) to (vi); CR 5, CR 6 and CR 11.
-- Flags go in and out packed; the pair of a store that can alter memory is kept in a journal (document 01, "File run and journal"; CR 11).
use Rattle.std.specs.Prelude.{ℕ, ◌≡◌, Bool, cond, ◌&&◌, List, Option, Some, None, Result, Ok, Err}
use Rattle.arithmetic.specs.declared.AluOut.{AluOut}
use Rattle.model.specs.declared.Machine.{Machine}
use Rattle.model.specs.declared.Operand.{Operand}
use Rattle.model.specs.declared.Ending.{Ending}
use Rattle.model.specs.Words.{present, alterable, store_above}
use Rattle.model.specs.Operands.{in_memory, step_down, step_up, register_word, operand_present, operand_value, store_in_register}
use Rattle.model.specs.Alu.{alu, flags_after, stores}
use Rattle.model.specs.Interpreter.{machine_with, instruction, op_a, op_b, regs_b, value_a, value_b, address_b, next_ending, next_runs, is_stored, regs_stored, next_memory, alters_memory, next_machine}
use Rattle.model.specs.Packed.{no_flags, packed_of, flags_of, packed_machine}
use Rattle.marks.specs.declared.Noting.{Noting}
use Rattle.marks.specs.Marks.{noting_at}
use Rattle.step.specs.Keeping.{kept_noting, Keeps}
use Rattle.step.specs.declared.take.Taken.{Taken}
use Rattle.step.specs.declared.fetch.Fetched.{Fetched}
use Rattle.step.specs.declared.Stepped.{Stepped}

-- an operand, with the registers as stepped down for it, where what it addresses is there
abbrev pub taken_of : Operand → List ℕ → List ℕ → Option Taken
taken_of o regs memory =
    cond (operand_present o regs memory) (Some (record { word = register_word o regs; value = operand_value o regs memory })) None

pub record Takes (o : Operand) (regs memory regs' : List ℕ) (t : Option Taken) : Type 0 where
  pub result : t ≡ taken_of o (step_down o regs) memory
  pub registers : regs' ≡ cond (operand_present o (step_down o regs) memory) (step_down o regs) regs

-- ---- (i) to (iii), which look at no flag

abbrev pub bare : List ℕ → Machine
bare regs = machine_with regs no_flags

abbrev pub fetched_of : List ℕ → List ℕ → Fetched
fetched_of regs memory =
    let m = bare regs in
    record {
      word = instruction memory m;
      oa = op_a memory m;
      ob = op_b memory m;
      a = value_a memory m;
      b = value_b memory m;
      address = address_b memory m;
    }

-- where the instruction does not run, why not
pub record Fetches (regs memory regs' : List ℕ) (f : Result Fetched Ending) : Type 0 where
  pub result : f ≡ cond (next_runs memory (bare regs)) (Ok (fetched_of regs memory)) (Err (next_ending memory (bare regs)))
  pub registers : regs' ≡ cond (next_runs memory (bare regs)) (regs_b memory (bare regs)) regs

-- ---- (iv) to (vi)

-- what a put of x into B leaves, where it is stored, of the registers and, before its pair is kept, of the memory
abbrev pub put_registers : Bool → Fetched → ℕ → List ℕ → List ℕ
put_registers stored f x regs = cond stored (store_in_register f.ob x regs) regs

abbrev pub put_words : (bottom : ℕ) → Bool → Fetched → ℕ → List ℕ → List ℕ
put_words bottom stored f x memory = cond stored (cond (in_memory f.ob) (store_above bottom memory f.address x) memory) memory

-- whether it puts a word of memory
abbrev pub put_in_memory : (bottom : ℕ) → Bool → Fetched → List ℕ → Bool
put_in_memory bottom stored f memory = stored && in_memory f.ob && alterable bottom f.address && present memory f.address

pub record PutsWord (bottom : ℕ) (stored : Bool) (f : Fetched) (x : ℕ) (regs memory journal map : List ℕ) (pairs : ℕ) (regs' memory' journal' map' : List ℕ) (n : Noting) : Type 0 where
  pub registers : regs' ≡ put_registers stored f x regs
  pub kept : Keeps (put_words bottom stored f x memory) journal map pairs (put_in_memory bottom stored f memory) f.address f.b memory' journal' map' n

-- what is computed, and whether it is stored
abbrev pub computed_of : ℕ → Fetched → AluOut
computed_of flags f = alu f.word (flags_of flags) f.a f.b

abbrev pub stored_of : ℕ → Fetched → Bool
stored_of flags f = stores f.word (flags_of flags)

-- an instruction that ran, or whose store the journal had no room for
abbrev pub stepped_with : (flags : ℕ) → (oa ob : Operand) → (stored full : Bool) → Stepped
stepped_with flags oa ob stored full =
    record { flags = flags; oa = oa; ob = ob; stored = stored; full = full }

-- where the journal is full, the flags stay, and the registers are not stepped up
abbrev pub finished_of : (flags : ℕ) → Fetched → (full : Bool) → Stepped
finished_of flags f full =
    stepped_with (cond full flags (packed_of (flags_after f.word (flags_of flags) (computed_of flags f)))) f.oa f.ob (stored_of flags f) full

abbrev pub finished_registers : (flags : ℕ) → Fetched → (full : Bool) → List ℕ → List ℕ
finished_registers flags f full regs =
    let put = put_registers (stored_of flags f) f (computed_of flags f).result regs in
    cond full put (step_up f.ob (step_up f.oa put))

pub record Finishes (regs memory : List ℕ) (bottom : ℕ) (journal map : List ℕ) (pairs flags : ℕ) (f : Fetched) (regs' memory' journal' map' : List ℕ) (pairs' : ℕ) (s : Stepped) : Type 0 where
  pub result : s ≡ finished_of flags f s.full
  pub registers : regs' ≡ finished_registers flags f s.full regs
  pub kept : Keeps (put_words bottom (stored_of flags f) f (computed_of flags f).result memory) journal map pairs (put_in_memory bottom (stored_of flags f) f memory) f.address f.b memory' journal' map' (noting_at s.full pairs')

-- ---- one instruction

-- whether the journal has no room for its store
abbrev pub finds_full : List ℕ → Machine → (bottom : ℕ) → (journal map : List ℕ) → (pairs : ℕ) → Bool
finds_full memory m bottom journal map pairs = (kept_noting journal map pairs (alters_memory memory m bottom) (address_b memory m)).full

abbrev pub stepped_of : List ℕ → Machine → (flags : ℕ) → (full : Bool) → Stepped
stepped_of memory m flags full =
    stepped_with (cond full flags (packed_of (next_machine memory m).flags)) (op_a memory m) (op_b memory m) (is_stored memory m) full

abbrev pub stepped_registers : List ℕ → Machine → (full : Bool) → List ℕ
stepped_registers memory m full = cond full (regs_stored memory m) (next_machine memory m).regs

-- what it leaves of machine, memory, journal and map; where it does not run, why not, and they stay
pub record Steps (regs memory : List ℕ) (bottom : ℕ) (journal map : List ℕ) (pairs flags : ℕ) (regs' memory' journal' map' : List ℕ) (pairs' : ℕ) (s : Result Stepped Ending) : Type 0 where
  pub result : s ≡ cond (next_runs memory (packed_machine regs flags)) (Ok (stepped_of memory (packed_machine regs flags) flags (finds_full memory (packed_machine regs flags) bottom journal map pairs))) (Err (next_ending memory (packed_machine regs flags)))
  pub registers : regs' ≡ cond (next_runs memory (packed_machine regs flags)) (stepped_registers memory (packed_machine regs flags) (finds_full memory (packed_machine regs flags) bottom journal map pairs)) regs
  pub kept : Keeps (cond (next_runs memory (packed_machine regs flags)) (next_memory memory (packed_machine regs flags) bottom) memory) journal map pairs (next_runs memory (packed_machine regs flags) && alters_memory memory (packed_machine regs flags) bottom) (address_b memory (packed_machine regs flags)) (value_b memory (packed_machine regs flags)) memory' journal' map' (noting_at (next_runs memory (packed_machine regs flags) && finds_full memory (packed_machine regs flags) bottom journal map pairs) pairs')
