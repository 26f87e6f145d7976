-- One instruction that runs: the gate machine comes, in the interpreter's clocks, to the interpreter's next machine.
use Prim.Native.Nat.{ℕ, ◌+◌}
use mathlib.Core.Path.{◌≡◌, refl, ◌∙◌}
use mathlib.Core.Bool.{Bool, true, false, not, cond, ◌&&◌, ◌||◌}
use mathlib.Core.List.{List}
use native.Mathlib.Omega.{arith}
use Rattle.arithmetic.specs.Words.{as_number}
use Rattle.model.specs.Board.{Board}
use Rattle.model.specs.declared.Machine.{Machine}
use Rattle.model.specs.declared.GateState.{GateState}
use Rattle.model.specs.Words.{is_instruction, word_at, present, store_above}
use Rattle.model.specs.Operands.{operand_b, in_memory, register_word, set_register}
use Rattle.model.specs.Waits.{next_position, position_after}
use Rattle.model.specs.Interpreter as I
use Rattle.model.specs.GateMachine.{Gate, gate, with_row, with_regs, with_address, with_a, with_b, with_access, address_pc, read_instruction, step_pc, compute, step_up_a, step_up_b, work, is_access, clock}
use Rattle.model.specs.Agreement.{machine_of}
use Rattle.model.proofs.Clocks.{halted-stands}
use Rattle.model.proofs.Reach.{Reaches, joined, costs, stays, row, accessed}

-- ---- an operand's read, from the row that prepared it: `mem` says whether it is in memory, and `word` is then its address

module _ (board : Board) (memory : List ℕ) (read next : ℕ) (latch : ℕ → GateState → GateState) (s : GateState) (word p l : ℕ) where
  abbrev pub prepared : Bool → GateState
  prepared mem =
      let t = with_access p false l s in
      cond mem (with_row read (with_address word t)) (with_row next (latch word t))

  abbrev pub taken : Bool → GateState
  taken mem =
      with_row next
      (latch (cond mem (word_at memory word) word)
      (with_row (cond mem read s.row)
      (with_address (cond mem word s.address)
      (with_access (position_after board.waits p (as_number mem)) false (cond mem 0 l) s))))

  takes : (f : ℕ) → is_access read ≡ true
      → ((t : GateState) → work board.bottom (gate (with_row read t) memory f) ≡ gate (with_row next (latch (word_at memory t.address) (with_row read t))) memory f)
      → ((x : ℕ) (t : GateState) → (latch x t).position ≡ t.position)
      → (mem : Bool) → (not mem || present memory word) ≡ true
      → (g : Gate) → clock board g ≡ gate (prepared mem) memory f → p ≡ g.state.position
      → Reaches board g (1 + as_number mem) (0 + as_number mem) (gate (taken mem) memory f)
  unfolding position_after
  takes f access reads keeps true here g e q =
      joined board (row board e q)
      (accessed board (with_row read (with_address word s)) memory f access here p l
      (reads (with_address word (with_access (next_position board.waits p) false 0 s)))
      (keeps _ (with_row read (with_address word (with_access (next_position board.waits p) false 0 s)))))
  takes f access reads keeps false here g e q =
      joined board (row board e (keeps _ (with_access p false l s) ∙ q)) (stays board)

-- ---- the store, from the row that computed: `st` says whether there is one, `mem` whether B is in memory, at the address `word`

module _ (board : Board) (memory : List ℕ) (s : GateState) (word p l : ℕ) where
  abbrev storing : Bool → Bool → GateState
  storing st mem =
      with_row (cond st (cond mem 9 8) 10) (with_address (cond mem word s.address) (with_access p false l s))

  abbrev written : Bool → Bool → GateState
  written st mem =
      with_row 10
      (with_regs (cond st (cond mem s.regs (set_register (operand_b s.instruction) s.result s.regs)) s.regs)
      (with_address (cond mem word s.address)
      (with_access (position_after board.waits p (as_number (st && mem))) false (cond (st && mem) 0 l) s)))

  writes : (f : ℕ) (st mem : Bool) → (not mem || present memory word) ≡ true
      → Reaches board (gate (storing st mem) memory f) (as_number st) (as_number (st && mem))
      (gate (written st mem) (cond st (cond mem (store_above board.bottom memory word s.result) memory) memory) f)
  unfolding position_after clock work is_access
  writes f true true here = accessed board (with_row 9 (with_address word s)) memory f refl here p l refl refl
  writes f true false here = row board refl refl
  writes f false true here = stays board
  writes f false false here = stays board

-- ---- the whole instruction, from row 0 with no access begun

abbrev pub idle : GateState → GateState
idle s = with_row 0 (with_access s.position false s.left s)

module _ (board : Board) (memory : List ℕ) (s : GateState) where
  abbrev m : Machine
  m = machine_of s

  -- A's register word
  abbrev pub word_a : ℕ
  word_a = register_word (I.op_a memory m) (I.regs_a memory m)

  -- the state with the word latched, in row 3, then before and in row 5, 7 and 10
  abbrev pub latched : GateState
  latched = read_instruction memory (with_access (next_position board.waits s.position) false 0 (address_pc memory (idle s)))

  abbrev fetched : GateState
  fetched = step_pc memory latched

  abbrev pub down_a : GateState
  down_a = with_regs (I.regs_a memory m) fetched

  abbrev taken_a : GateState
  taken_a = taken board memory 4 5 with_a down_a word_a down_a.position down_a.left (in_memory (I.op_a memory m))

  abbrev pub down_b : GateState
  down_b = with_regs (I.regs_b memory m) taken_a

  abbrev taken_b : GateState
  taken_b = taken board memory 6 7 with_b down_b (I.address_b memory m) down_b.position down_b.left (in_memory (I.op_b memory m))

  abbrev computed : GateState
  computed = with_address taken_a.address (compute memory taken_b)

  abbrev written_b : GateState
  written_b =
      written board memory computed (I.address_b memory m) computed.position computed.left (I.is_stored memory m) (in_memory (I.op_b memory m))

  module _ (f : ℕ) where
    abbrev pub next : Gate
    next = step_up_b (gate (step_up_a memory written_b) (I.next_memory memory m board.bottom) f)

    pub reads : present memory (I.pc memory m) ≡ true → Reaches board (gate (idle s) memory f) 2 1 (gate latched memory f)
    unfolding clock work is_access
    reads here =
        joined board {h = gate (address_pc memory (idle s)) memory f} (row board refl refl)
        (accessed board (address_pc memory (idle s)) memory f refl here s.position s.left refl refl)

    -- a word that is no instruction
    pub halts : is_instruction (I.instruction memory m) ≡ false → clock board (gate latched memory f) ≡ gate latched memory f
    halts none = halted-stands board (gate latched memory f) (rw none)

    steps_pc : is_instruction (I.instruction memory m) ≡ true → clock board (gate latched memory f) ≡ gate fetched memory f
    unfolding clock work is_access
    steps_pc one = rw one

    pub fetches : present memory (I.pc memory m) ≡ true → is_instruction (I.instruction memory m) ≡ true
        → Reaches board (gate (idle s) memory f) 3 1 (gate fetched memory f)
    fetches here one = joined board (reads here) (row board (steps_pc one) refl)

    pub takes-a : I.present_a memory m ≡ true
        → Reaches board (gate fetched memory f) (1 + as_number (in_memory (I.op_a memory m))) (0 + as_number (in_memory (I.op_a memory m))) (gate taken_a memory f)
    unfolding clock work is_access
    takes-a here =
        takes board memory 4 5 with_a down_a word_a down_a.position down_a.left f refl (λ t. refl) (λ x t. refl)
        (in_memory (I.op_a memory m)) here (gate fetched memory f) refl refl

    takes-b : I.present_b memory m ≡ true
        → Reaches board (gate taken_a memory f) (1 + as_number (in_memory (I.op_b memory m))) (0 + as_number (in_memory (I.op_b memory m))) (gate taken_b memory f)
    unfolding clock work is_access
    takes-b here =
        takes board memory 6 7 with_b down_b (I.address_b memory m) down_b.position down_b.left f refl (λ t. refl) (λ x t. refl)
        (in_memory (I.op_b memory m)) here (gate taken_a memory f) refl refl

    writes-b : I.present_b memory m ≡ true
        → Reaches board (gate taken_b memory f) (1 + as_number (I.is_stored memory m)) (0 + as_number (I.is_stored memory m && in_memory (I.op_b memory m)))
        (gate written_b (I.next_memory memory m board.bottom) f)
    unfolding clock work is_access
    writes-b here =
        joined board (row board refl refl)
        (writes board memory computed (I.address_b memory m) computed.position computed.left f (I.is_stored memory m) (in_memory (I.op_b memory m)) here)

    finishes : Reaches board (gate written_b (I.next_memory memory m board.bottom) f) 2 0 next
    unfolding clock work is_access
    finishes =
        joined board {h = gate (step_up_a memory written_b) (I.next_memory memory m board.bottom) f} (row board refl refl) (row board refl refl)

    pub executes : present memory (I.pc memory m) ≡ true → is_instruction (I.instruction memory m) ≡ true → I.present_a memory m ≡ true → I.present_b memory m ≡ true
        → Reaches board (gate (idle s) memory f) (I.base_clocks memory m) (I.accesses memory m) next
    executes here_i one here_a here_b =
        costs board (omega arith) (omega arith)
        (joined board (fetches here_i one) (joined board (takes-a here_a) (joined board (takes-b here_b) (joined board (writes-b here_b) finishes))))
