-- A clock keeps what a gate run asks of its state and memory, so that the next run of a series is not turned down.
use Rattle.std.specs.Prelude.{Ok}
use Prim.Native.Nat.{ℕ, zero, suc, ◌≤◌, ◌<◌}
use mathlib.Core.Path.{◌≡◌, refl, ap, ◌∙◌}
use mathlib.Core.Bool.{Bool, true, false, cond, ◌&&◌, and-eq-true_iff}
use mathlib.Core.List.{List, []}
use native.Mathlib.Omega.{arith}
use lib.Dec.{eqb, ltb, leb}
use lib.ListN.{length, get_or}
use borrow.Author.Tests.{lt-ltb, le-leb, leb-true, eqb-true}
use Rattle.model.specs.declared.Machine.{Machine}
use Rattle.model.specs.declared.GateState.{GateState}
use Rattle.model.specs.declared.Refusal.TheVariants.{LongWaitList, BadGateState, ResetsNotRising}
use Rattle.model.specs.Words.{is_instruction, word_at}
use Rattle.model.specs.Operands.{operand_a, operand_b, in_memory}
use Rattle.model.specs.Alu.{stores}
use Rattle.model.specs.Waits.{position_fits}
use Rattle.model.specs.Board.{Board}
use Rattle.model.specs.Resets.{is_reset, rises}
use Rattle.model.specs.Interpreter.{op_b, address_b, alu_out, is_stored, accesses, Run, begin, execute, stop, advance, interpret}
use Rattle.model.specs.GateMachine.{Gate, gate, with_access, on_state, address_pc, read_instruction, step_pc, prepare_a, read_a, prepare_b, read_b, compute, write_register, write_memory, step_up_a, step_up_b, halt, rows, work, is_access, position_now, clock, reset_state, gate_run}
use Rattle.model.specs.Refusals.{most_waits, ◌then◌, memory_fits, bottom_fits, waits_fit, resets_fit, start_fits, access_formed, state_fits, run_verdict, gate_verdict}
use Rattle.model.specs.Agreement.{Between, gate_from}
use Rattle.model.proofs.Cases.{pick, Each, past, ◌▸◌}
use Rattle.model.proofs.Operands.{stored-length}
use Rattle.model.proofs.Waits.{next_fits, after-fits}
use Rattle.model.proofs.Runs.{one_more}
use Rattle.model.proofs.Clocks.{access_over, one-clock}
use Rattle.model.proofs.Verdicts.{demanded, both}

-- ---- what a run asks of a state

pub record Valid (waits : List ℕ) (s : GateState) : Type 0 where
  pub row : s.row < 13
  pub position : position_fits waits s.position ≡ true
  pub access : access_formed s ≡ true

module _ (waits : List ℕ) (s : GateState) where
  pub valid-verdict : Valid waits s → state_fits waits s ≡ Ok tt
  valid-verdict v = rw (le-leb s.row 12 (omega (arith, v.row)), v.position, v.access)

  verdict-valid : state_fits waits s ≡ Ok tt → Valid waits s
  verdict-valid e =
      let (rp, a) = (and-eq-true_iff (leb s.row 12 && position_fits waits s.position) (access_formed s)).0 (demanded _ BadGateState e) in
      let (r, p) = (and-eq-true_iff (leb s.row 12) (position_fits waits s.position)).0 rp in
      record { row = omega (arith, leb-true s.row 12 r); position = p; access = a }

  -- with no access begun
  pub resting : s.row < 13 → position_fits waits s.position ≡ true → s.begun ≡ false → s.left ≡ 0 → Valid waits s
  resting r p b l = record { row = r; position = p; access = rw (b, l) }

-- a row that is no access has none begun
none-begun : (s : GateState) → is_access s.row ≡ false → access_formed s ≡ true → (s.begun ≡ false) × (s.left ≡ 0)
none-begun s a v = go s.begun refl (rw a at v)
  where
    go : (b : Bool) → s.begun ≡ b → cond b (false && ltb 0 s.left) (eqb s.left 0) ≡ true → (s.begun ≡ false) × (s.left ≡ 0)
    go true e q = (cc, cc)
    go false e q = (e, eqb-true s.left 0 q)

-- a start in row 0 with no access begun, at any position: both engines turn it down for the same reason
pub start-verdict : (memory : List ℕ) (board : Board) (s : GateState) → Between s → s.left ≡ 0 → gate_verdict memory board [] s ≡ run_verdict memory board s.position
unfolding gate_verdict run_verdict
start-verdict memory board s h l = rw (h.row, h.begun, l, and_true (position_fits board.waits s.position))
  where
    and_true : (t : Bool) → (t && true) ≡ t
    and_true true = refl
    and_true false = refl

-- ---- a row leads to a row of the table, and leaves the access in hand and the memory's length

record Kept (g h : Gate) : Type 0 where
  row : h.state.row < 13
  access : h.state ≡ with_access g.state.position g.state.begun g.state.left h.state
  words : length h.memory ≡ length g.memory

Keeps : (Gate → Gate) → Type 0
Keeps f = (g : Gate) → g.state.row < 13 → Kept g (f g)

keeps : (h : List ℕ → GateState → GateState) → ((m : List ℕ) (s : GateState) → (h m s).row < 13)
    → ((m : List ℕ) (s : GateState) → h m s ≡ with_access s.position s.begun s.left (h m s)) → Keeps (on_state h)
unfolding Keeps
keeps h r a g l = record { row = r g.memory g.state; access = a g.memory g.state; words = refl }

-- a row with two ways on
abbrev Low : GateState → Type 0
Low t = t.row < 13

abbrev Same : GateState → GateState → Type 0
Same s t = t ≡ with_access s.position s.begun s.left t

writes-keep : (bottom : ℕ) → Keeps (write_memory bottom)
unfolding Keeps
writes-keep bottom g l = record { row = omega arith; access = refl; words = stored-length bottom g.memory g.state.address g.state.result }

finish_keeps : Keeps step_up_b
unfolding Keeps
finish_keeps g l = record { row = omega arith; access = refl; words = refl }

rows-keep : (bottom : ℕ) → Each (λ r. Keeps (get_or (rows bottom) r (λ h. h)))
unfolding Keeps
rows-keep bottom =
    keeps address_pc (λ m s. omega arith) (λ m s. refl)
    ▸ keeps read_instruction (λ m s. pick (λ (n : ℕ). n < 13) (is_instruction (word_at m s.address)) (omega arith) (omega arith)) (λ m s. refl)
    ▸ keeps step_pc (λ m s. omega arith) (λ m s. refl)
    ▸ keeps prepare_a (λ m s. pick Low (in_memory (operand_a s.instruction)) (omega arith) (omega arith)) (λ m s. pick (Same s) (in_memory (operand_a s.instruction)) refl refl)
    ▸ keeps read_a (λ m s. omega arith) (λ m s. refl)
    ▸ keeps prepare_b (λ m s. pick Low (in_memory (operand_b s.instruction)) (omega arith) (omega arith)) (λ m s. pick (Same s) (in_memory (operand_b s.instruction)) refl refl)
    ▸ keeps read_b (λ m s. omega arith) (λ m s. refl)
    ▸ keeps compute (λ m s. pick (λ (n : ℕ). n < 13) (stores s.instruction s.flags) (pick (λ (n : ℕ). n < 13) (in_memory (operand_b s.instruction)) (omega arith) (omega arith)) (omega arith)) (λ m s. refl)
    ▸ keeps write_register (λ m s. omega arith) (λ m s. refl)
    ▸ writes-keep bottom
    ▸ keeps step_up_a (λ m s. omega arith) (λ m s. refl)
    ▸ finish_keeps
    ▸ keeps halt (λ m s. omega arith) (λ m s. refl)
    ▸ past (λ r g l. record { row = l; access = refl; words = refl })

work-keeps : (bottom : ℕ) → Keeps (work bottom)
unfolding Keeps work
work-keeps bottom g l = (rows-keep bottom).at g.state.row g l

-- ---- one clock, and a run

record Fine (waits : List ℕ) (words : ℕ) (g : Gate) : Type 0 where
  valid : Valid waits g.state
  length : lib.ListN.length g.memory ≡ words

module _ (board : Board) where
  position-fits : (s : GateState) → position_fits board.waits s.position ≡ true → position_fits board.waits (position_now board.waits s) ≡ true
  unfolding position_now
  position-fits s h = pick (λ (p : ℕ). position_fits board.waits p ≡ true) s.begun h (next_fits board.waits s.position h)

  -- the work of a row that has no access begun
  works : (words : ℕ) (g : Gate) → g.state.row < 13 → position_fits board.waits g.state.position ≡ true → g.state.begun ≡ false → g.state.left ≡ 0 → length g.memory ≡ words → Fine board.waits words (work board.bottom g)
  unfolding Keeps
  works words g r p b l w =
      let k = work-keeps board.bottom g r in
      record {
        valid = resting board.waits (work board.bottom g).state k.row (rw (ap (λ (s : GateState). s.position) k.access) p) (ap (λ (s : GateState). s.begun) k.access ∙ b) (ap (λ (s : GateState). s.left) k.access ∙ l);
        length = k.words ∙ w;
      }

  clock-fine : (words : ℕ) (g : Gate) → Fine board.waits words g → Fine board.waits words (clock board g)
  unfolding clock
  clock-fine words g h =
      let fits = position-fits g.state h.valid.position in
      one-clock board g (λ (c : Gate → Gate). Fine board.waits words (c g))
      (λ _ _ _. works words (access_over board g g) h.valid.row fits refl refl h.length)
      (λ access _ w _. record { valid = record { row = h.valid.row; position = fits; access = rw (access, lt-ltb 0 (suc w) (omega arith)) }; length = h.length })
      (λ _ _. h)
      (λ plain.
      let n = none-begun g.state plain h.valid.access in
      works words g h.valid.row h.valid.position n.0 n.1 h.length)

  reset-fine : (words : ℕ) (g : Gate) → Fine board.waits words g → Fine board.waits words (on_state (λ memory. reset_state) g)
  reset-fine words g h =
      record { valid = resting board.waits (reset_state g.state) (omega arith) h.valid.position refl refl; length = h.length }

  run-fine : (resets : List ℕ) (words k : ℕ) (g : Gate) → Fine board.waits words g → Fine board.waits words (gate_run board resets k g)
  unfolding gate_run
  run-fine resets words zero g h = h
  run-fine resets words (suc k) g h =
      let f = run-fine resets words k g h in
      pick (Fine board.waits words) (is_reset resets k) (reset-fine words (gate_run board resets k g) f) (clock-fine words (gate_run board resets k g) f)

-- ---- a call that is carried out

-- nothing that a run asks fails
record Passed (memory : List ℕ) (board : Board) (resets : List ℕ) (start : GateState) : Type 0 where
  words : memory_fits memory ≡ Ok tt
  bottom : bottom_fits memory board.bottom ≡ Ok tt
  list : waits_fit board.waits ≡ Ok tt
  rising : resets_fit resets ≡ Ok tt
  state : state_fits board.waits start ≡ Ok tt

module _ (memory : List ℕ) (board : Board) (resets : List ℕ) (start : GateState) (e : gate_verdict memory board resets start ≡ Ok tt) where
  passed : Passed memory board resets start
  unfolding gate_verdict
  passed =
      let state = state_fits board.waits start in
      let (m, bwrs) = both (memory_fits memory) (bottom_fits memory board.bottom then waits_fit board.waits then resets_fit resets then state) e in
      let (b, wrs) = both (bottom_fits memory board.bottom) (waits_fit board.waits then resets_fit resets then state) bwrs in
      let (w, rs) = both (waits_fit board.waits) (resets_fit resets then state) wrs in
      let (r, s) = both (resets_fit resets) state rs in
      record { words = m; bottom = b; list = w; rising = r; state = s }

  pub resets-rise : rises resets ≡ true
  resets-rise = demanded _ ResetsNotRising passed.rising

  pub short : length board.waits ≤ most_waits
  short = leb-true (length board.waits) most_waits (demanded _ LongWaitList passed.list)

  -- every state that the run comes to is one that a run takes
  comes-fine : (i : ℕ) → Fine board.waits (length memory) (gate_run board resets i (gate_from start memory))
  comes-fine i = run-fine board resets (length memory) i (gate_from start memory) (record { valid = verdict-valid board.waits start passed.state; length = refl })

  pub row-there : (i : ℕ) {s : GateState} {m : List ℕ} {f : ℕ} → gate s m f ≡ gate_run board resets i (gate_from start memory) → s.row < 13
  row-there i q = rw (ap (λ (g : Gate). g.state.row) q) (comes-fine i).valid.row

  -- the verdict looks at the memory's length, at the state's validity and at the next run's resets
  still-accepted : (later : List ℕ) → resets_fit later ≡ Ok tt → (g : Gate) → Fine board.waits (length memory) g → gate_verdict g.memory board later g.state ≡ Ok tt
  unfolding gate_verdict
  still-accepted later l g f = rw (f.length, passed.words, passed.bottom, passed.list, l) (valid-verdict board.waits g.state f.valid)

  -- the state and the memory that a run leaves are taken by the next, with resets that rise
  pub next-accepted : (later : List ℕ) → resets_fit later ≡ Ok tt → (i : ℕ) {s : GateState} {m : List ℕ} {f : ℕ} → gate s m f ≡ gate_run board resets i (gate_from start memory) → gate_verdict m board later s ≡ Ok tt
  next-accepted later l i q =
      ap (λ (g : Gate). gate_verdict g.memory board later g.state) q
      ∙ still-accepted later l (gate_run board resets i (gate_from start memory)) (comes-fine i)

-- ---- a run of the interpreter that is carried out

-- the memory's length, and the position in the list
record Steady (waits : List ℕ) (words : ℕ) (r : Run) : Type 0 where
  position : position_fits waits r.position ≡ true
  length : lib.ListN.length r.memory ≡ words

advance-steady : (board : Board) (words : ℕ) (r : Run) → Steady board.waits words r → Steady board.waits words (advance board r)
unfolding execute stop
advance-steady board words r h =
    let memory = r.memory in
    let m = r.machine in
    one_more board (Steady board.waits words) r
    (λ _ _.
    record {
      position = after-fits board.waits (accesses memory m) r.position h.position;
      length =
          pick (λ (l : List ℕ). length l ≡ words) (is_stored memory m)
          (pick (λ (l : List ℕ). length l ≡ words) (in_memory (op_b memory m)) (stored-length board.bottom memory (address_b memory m) (alu_out memory m).result ∙ h.length) h.length)
          h.length;
    })
    (λ _ _. record { position = h.position; length = h.length })
    (λ _. h)

run-steady : (board : Board) (words n : ℕ) (r : Run) → Steady board.waits words r → Steady board.waits words (interpret board n r)
unfolding interpret
run-steady board words zero r h = h
run-steady board words (suc n) r h = advance-steady board words (interpret board n r) (run-steady board words n r h)

-- nothing that it asks fails
pub record RunPassed (memory : List ℕ) (board : Board) (position : ℕ) : Type 0 where
  pub words : memory_fits memory ≡ Ok tt
  pub bottom : bottom_fits memory board.bottom ≡ Ok tt
  pub list : waits_fit board.waits ≡ Ok tt
  pub short : length board.waits ≤ most_waits
  pub there : position_fits board.waits position ≡ true

pub run-passed : (memory : List ℕ) (board : Board) (position : ℕ) → run_verdict memory board position ≡ Ok tt → RunPassed memory board position
unfolding run_verdict
run-passed memory board position e =
    let waits = board.waits in
    let (m, bwp) = both (memory_fits memory) (bottom_fits memory board.bottom then waits_fit waits then start_fits waits position) e in
    let (b, wp) = both (bottom_fits memory board.bottom) (waits_fit waits then start_fits waits position) bwp in
    let (w, p) = both (waits_fit waits) (start_fits waits position) wp in
    record { words = m; bottom = b; list = w; short = leb-true (length waits) most_waits (demanded _ LongWaitList w); there = demanded _ BadGateState p }

-- the memory and the position that a run leaves are taken by the next
pub run-accepts-next : (memory : List ℕ) (board : Board) (position : ℕ) (m : Machine) (n : ℕ) → run_verdict memory board position ≡ Ok tt
    → let r = interpret board n (begin m memory position) in run_verdict r.memory board r.position ≡ Ok tt
unfolding run_verdict
run-accepts-next memory board position m n e =
    let p = run-passed memory board position e in
    let s = run-steady board (length memory) n (begin m memory position) (record { position = p.there; length = refl }) in
    rw (s.length, p.words, p.bottom, p.list, s.position)
