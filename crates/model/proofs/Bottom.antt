-- CR 6: the bottom of memory is kept, and where nothing is stored below it the engines do what they do with the bottom at 0.
use Rattle.std.specs.Prelude.{Ok}
use Prim.Native.Nat.{ℕ, zero, suc}
use mathlib.Core.Path.{◌≡◌, refl, sym, ap, ap₂, ◌∙◌}
use mathlib.Core.Bool.{Bool, true, false, not, cond, ◌&&◌, true≢false}
use mathlib.Core.List.{List}
use lib.Dec.{eqb, leb-zero}
use lib.ListN.{length, get_or, take}
use lib.Seq.{take-set-le}
use borrow.Author.Tests.{leb-true, lt-leb, eqb-true}
use Rattle.model.specs.declared.GateState.{GateState}
use Rattle.model.specs.declared.Machine.{Machine}
use Rattle.model.specs.Words.{present, store_word, alterable, store_above}
use Rattle.model.specs.Operands.{in_memory}
use Rattle.model.specs.Board.{Board}
use Rattle.model.specs.Resets.{is_reset}
use Rattle.model.specs.Interpreter as I
use Rattle.model.specs.Journal.{Pair, stored_by, Noted, within, run_one, run_noted, fresh}
use Rattle.model.specs.GateMachine.{Gate, gate, with_row, rows, work, is_access, remaining, position_now, work_or_wait, clock, reset_or_clock, gate_run}
use Rattle.model.specs.Refusals.{◌then◌, memory_fits, bottom_fits, waits_fit, resets_fit, start_fits, state_fits, run_verdict, file_verdict, gate_verdict, Verdict}
use Rattle.model.specs.Bottom.{MemoryFirst, BottomNext, RunKeepsBottom, GateKeepsBottom, LevelStores, never, stores_below, never_stores_below, clock_stores_below, no_clock_stores_below, level, RunAsLevel, GateAsLevel, NeverAsLevel, NoClockAsLevel, AcceptedAsLevel}
use Rattle.model.proofs.Cases.{pick, Each, past, ◌▸◌}
use Rattle.model.proofs.Runs.{one_more}
use Rattle.model.proofs.Clocks.{access_over, one-clock}
use Rattle.model.proofs.Journals.{full-stays, not-full-run}
use Rattle.model.proofs.Verdicts.{both}

-- ---- 21 directly after 2

pub memory-first : MemoryFirst
unfolding run_verdict file_verdict gate_verdict
memory-first memory board why e = record { run = λ position. rw e; file = rw e; gate = λ resets s. rw e }

pub bottom-next : BottomNext
unfolding run_verdict file_verdict gate_verdict
bottom-next memory board e h =
    let high = lt-leb board.bottom (length memory) h in
    record { run = λ position. rw (e, high); file = rw (e, high); gate = λ resets s. rw (e, high) }

-- ---- the bottom is kept

store_keeps : (bottom : ℕ) (memory : List ℕ) (address word : ℕ) → take bottom (store_above bottom memory address word) ≡ take bottom memory
store_keeps bottom memory address word = go (alterable bottom address) refl
  where
    go : (t : Bool) → alterable bottom address ≡ t → take bottom (cond t (store_word memory address word) memory) ≡ take bottom memory
    go true e = take-set-le bottom memory address word (leb-true bottom address e)
    go false e = refl

module _ (board : Board) where
  abbrev Kept : List ℕ → List ℕ → Type 0
  Kept former memory = take board.bottom memory ≡ take board.bottom former

  advance-keeps : (r : I.Run) → Kept r.memory (I.advance board r).memory
  unfolding I.execute I.stop
  advance-keeps r =
      let memory = r.memory in
      let m = r.machine in
      one_more board (λ (x : I.Run). Kept memory x.memory) r
      (λ _ _.
      pick (Kept memory) (I.is_stored memory m)
      (pick (Kept memory) (in_memory (I.op_b memory m)) (store_keeps board.bottom memory (I.address_b memory m) (I.alu_out memory m).result) refl)
      refl)
      (λ _ _. refl)
      (λ _. refl)

  rows-keep : (g : Gate) → Each (λ r. Kept g.memory (get_or (rows board.bottom) r (λ h. h) g).memory)
  rows-keep g =
      refl ▸ refl ▸ refl ▸ refl ▸ refl ▸ refl ▸ refl ▸ refl ▸ refl
      ▸ store_keeps board.bottom g.memory g.state.address g.state.result
      ▸ refl ▸ refl ▸ refl
      ▸ past (λ r. refl)

  clock-keeps : (g : Gate) → Kept g.memory (clock board g).memory
  unfolding clock work
  clock-keeps g =
      one-clock board g (λ (c : Gate → Gate). Kept g.memory (c g).memory)
      (λ _ _ _. (rows-keep (access_over board g g)).at g.state.row)
      (λ _ _ w _. refl)
      (λ _ _. refl)
      (λ _. (rows-keep g).at g.state.row)

pub run-keeps-bottom : RunKeepsBottom
unfolding I.interpret
run-keeps-bottom board zero r = refl
run-keeps-bottom board (suc n) r = advance-keeps board (I.interpret board n r) ∙ run-keeps-bottom board n r

pub gate-keeps-bottom : GateKeepsBottom
unfolding gate_run
gate-keeps-bottom board resets zero g = refl
gate-keeps-bottom board resets (suc k) g =
    let before = gate_run board resets k g in
    pick (λ (h : Gate). Kept board before.memory h.memory) (is_reset resets k) refl (clock-keeps board before)
    ∙ gate-keeps-bottom board resets k g

-- ---- as with the bottom at 0

-- what never happened before and does not now
never-now : (before now : Bool) → (before && not now) ≡ true → (before ≡ true) × (now ≡ false)
never-now true true e = absurd (true≢false (sym e))
never-now true false e = (refl, refl)
never-now false now e = absurd (true≢false (sym e))

-- two truths that are the same where a first one holds
where_true : (t : Bool) {x y : Bool} → (t ≡ true → x ≡ y) → (t && x) ≡ (t && y)
where_true true h = h refl
where_true false h = refl

-- two things that happen alike as long as the first has never happened
never-same : (f g : ℕ → Bool) → ((n : ℕ) → never f n ≡ true → f n ≡ g n) → (n : ℕ) → never f n ≡ never g n
unfolding never
never-same f g h zero = refl
never-same f g h (suc n) = where_true (never f n) (λ e. ap not (h n e)) ∙ ap (λ (t : Bool). t && not (g n)) (never-same f g h n)

pub level-stores : LevelStores
level-stores memory address word = rw (leb-zero address)

module _ {A : Type 0} where
  -- a store that is not below the bottom, of a result that is stored, to an operand in memory
  same_store : (stored mem above : Bool) (x y : A) → (stored && mem && not above) ≡ false
      → cond stored (cond mem (cond above x y) y) y ≡ cond stored (cond mem x y) y
  same_store true true true x y h = refl
  same_store true true false x y h = absurd (true≢false h)
  same_store true false above x y h = refl
  same_store false mem above x y h = refl

same-pair : (goes stored above : Bool) → (goes && stored && not above) ≡ false → (goes && (stored && above)) ≡ (goes && (stored && true))
same-pair true true true h = refl
same-pair true true false h = absurd (true≢false h)
same-pair true false above h = refl
same-pair false stored above h = refl

module _ (board : Board) where
  module _ (r : I.Run) where
    abbrev memory : List ℕ
    memory = r.memory

    abbrev m : Machine
    m = r.machine

    -- its store, if it has one to memory, is below the bottom
    abbrev below : Bool
    below = I.stores_to_memory memory m && not (alterable board.bottom (I.address_b memory m))

    memory-level : below ≡ false → I.next_memory memory m board.bottom ≡ I.next_memory memory m 0
    memory-level h =
        rw (leb-zero (I.address_b memory m))
        (same_store (I.is_stored memory m) (in_memory (I.op_b memory m)) (alterable board.bottom (I.address_b memory m)) (store_word memory (I.address_b memory m) (I.alu_out memory m).result) memory h)

    execute-level : below ≡ false → I.execute board r ≡ I.execute (level board) r
    unfolding I.execute
    execute-level h =
        let x = I.execute board r in
        ap (λ (l : List ℕ). record { machine = x.machine; memory = l; position = x.position; ran = x.ran; clocks = x.clocks; ending = x.ending }) (memory-level h)

    advance-level : stores_below board.bottom r ≡ false → I.advance board r ≡ I.advance (level board) r
    unfolding I.advance
    advance-level h = go (I.goes_on r.ending) (I.next_runs memory m) h
      where
        go : (a c : Bool) → (a && c && I.stores_to_memory memory m && not (alterable board.bottom (I.address_b memory m))) ≡ false
            → cond a (cond c (I.execute board r) (I.stop (I.next_ending memory m) r)) r ≡ cond a (cond c (I.execute (level board) r) (I.stop (I.next_ending memory m) r)) r
        go true true h = execute-level h
        go true false h = refl
        go false c h = refl

    stored-level : stores_below board.bottom r ≡ false → stored_by board.bottom r ≡ stored_by 0 r
    unfolding stored_by
    stored-level h = rw (leb-zero (I.address_b memory m), same-pair (I.goes_on r.ending && I.next_runs memory m) (I.stores_to_memory memory m) (alterable board.bottom (I.address_b memory m)) h)

both-level : (board : Board) (room : ℕ) (k : Noted) → stores_below board.bottom k.run ≡ false → run_one board room k ≡ run_one (level board) room k
unfolding run_one
both-level board room k h = ap₂ (λ (x : List Pair) (y : I.Run). within room k x y) (stored-level board k.run h) (advance-level board k.run h)

-- one more with a journal: where it is full nothing changes, else the run is the interpreter's
next_level : (board : Board) (room n : ℕ) (r : I.Run) (pairs : List Pair) → stores_below board.bottom (I.interpret board n r) ≡ false
    → let k = run_noted board room n (fresh r pairs) in run_one board room k ≡ run_one (level board) room k
next_level board room n r pairs now = go (run_noted board room n (fresh r pairs)).full refl
  where
    go : (f : Bool) → (run_noted board room n (fresh r pairs)).full ≡ f
        → let k = run_noted board room n (fresh r pairs) in run_one board room k ≡ run_one (level board) room k
    go true e = full-stays board room (run_noted board room n (fresh r pairs)) e ∙ sym (full-stays (level board) room (run_noted board room n (fresh r pairs)) e)
    go false e =
        let k = run_noted board room n (fresh r pairs) in
        let same = not-full-run board room n r pairs e in
        let here : stores_below board.bottom k.run ≡ false = ap (stores_below board.bottom) same ∙ now in
        both-level board room k here

pub run-as-level : RunAsLevel
unfolding I.interpret run_noted never
run-as-level board zero r h = record { run = refl; journal = λ room pairs. refl }
run-as-level board (suc n) r h =
    let last = I.interpret board n r in
    let (never, now) = never-now (never_stores_below board.bottom board n r) (stores_below board.bottom last) h in
    let before = run-as-level board n r never in
    record {
      run = advance-level board last now ∙ ap (I.advance (level board)) before.run;
      journal = λ room pairs. next_level board room n r pairs now ∙ ap (run_one (level board) room) (before.journal room pairs);
    }

pub never-as-level : NeverAsLevel
never-as-level board n r = never-same _ _ (λ i e. ap (stores_below board.bottom) (run-as-level board i r e).run) n

module _ (board : Board) (g : Gate) where
  abbrev s : GateState
  s = g.state

  -- rows differ in row 9 alone
  rows-level : Each (λ r. (eqb r 9 && not (alterable board.bottom s.address)) ≡ false → get_or (rows board.bottom) r (λ h. h) g ≡ get_or (rows 0) r (λ h. h) g)
  rows-level =
      (λ _. refl) ▸ (λ _. refl) ▸ (λ _. refl) ▸ (λ _. refl) ▸ (λ _. refl) ▸ (λ _. refl) ▸ (λ _. refl) ▸ (λ _. refl) ▸ (λ _. refl)
      ▸ (λ h. rw (leb-zero s.address) (ap (λ (l : List ℕ). gate (with_row 10 s) l g.finished) (same_store true true (alterable board.bottom s.address) (store_word g.memory s.address s.result) g.memory h)))
      ▸ (λ _. refl) ▸ (λ _. refl) ▸ (λ _. refl)
      ▸ past (λ r _. refl)

  work-level : (eqb s.row 9 && not (alterable board.bottom s.address)) ≡ false → work board.bottom g ≡ work 0 g
  unfolding work
  work-level h = rows-level.at s.row h

nine_access : is_access 9 ≡ true
unfolding is_access
nine_access = refl

clock-level : (board : Board) (g : Gate) → clock_stores_below board.bottom board false g ≡ false → clock board g ≡ clock (level board) g
unfolding clock work_or_wait
clock-level board g h = go (is_access g.state.row) refl (present g.memory g.state.address) (remaining waits g.state) h
  where
    waits : List ℕ
    waits = board.waits

    p : ℕ
    p = position_now waits g.state

    below : Bool
    below = not (alterable board.bottom g.state.address)

    -- on the last clock of an access that is acknowledged
    now : (nine : Bool) → (nine && true && true && below) ≡ false → (nine && below) ≡ false
    now true e = e
    now false e = refl

    -- row 9 is an access
    elsewhere : (nine : Bool) → eqb g.state.row 9 ≡ nine → is_access g.state.row ≡ false → (nine && below) ≡ false
    elsewhere true e f = absurd (true≢false (sym nine_access ∙ ap is_access (sym (eqb-true _ 9 e)) ∙ f))
    elsewhere false e f = refl

    go : (a : Bool) → is_access g.state.row ≡ a → (t : Bool) → (w : ℕ) → (eqb g.state.row 9 && t && eqb w 0 && below) ≡ false
        → cond a (cond t (work_or_wait board.bottom w p g) g) (work board.bottom g) ≡ cond a (cond t (work_or_wait 0 w p g) g) (work 0 g)
    go true a true zero e = work-level board (access_over board g g) (now (eqb g.state.row 9) e)
    go true a true (suc w) e = refl
    go true a false w e = refl
    go false a t w e = work-level board g (elsewhere (eqb g.state.row 9) refl a)

either-level : (board : Board) (held : Bool) (g : Gate) → clock_stores_below board.bottom board held g ≡ false → reset_or_clock board held g ≡ reset_or_clock (level board) held g
either-level board true g h = refl
either-level board false g h = clock-level board g h

pub gate-as-level : GateAsLevel
unfolding gate_run never
gate-as-level board resets zero g h = refl
gate-as-level board resets (suc k) g h =
    let last = gate_run board resets k g in
    let held = is_reset resets k in
    let (never, now) = never-now (no_clock_stores_below board.bottom board resets k g) (clock_stores_below board.bottom board held last) h in
    either-level board held last now ∙ ap (reset_or_clock (level board) held) (gate-as-level board resets k g never)

pub no-clock-as-level : NoClockAsLevel
no-clock-as-level board resets k g =
    never-same _ _ (λ i e. ap (clock_stores_below board.bottom board (is_reset resets i)) (gate-as-level board resets i g e)) k

-- a bottom of 0 is never too high
level-fits : (memory : List ℕ) (bottom : ℕ) (rest : Verdict) → (memory_fits memory then bottom_fits memory bottom then rest) ≡ Ok tt
    → (memory_fits memory then bottom_fits memory 0 then rest) ≡ Ok tt
level-fits memory bottom rest e =
    let (m, br) = both (memory_fits memory) (bottom_fits memory bottom then rest) e in
    rw (m, leb-zero (length memory)) (both (bottom_fits memory bottom) rest br).1

pub accepted-as-level : AcceptedAsLevel
unfolding run_verdict file_verdict gate_verdict
accepted-as-level memory board =
    record {
      run = λ position. level-fits memory board.bottom (waits_fit board.waits then start_fits board.waits position);
      file = λ e. rw ((both (memory_fits memory) (bottom_fits memory board.bottom) e).0, leb-zero (length memory));
      gate = λ resets s. level-fits memory board.bottom (waits_fit board.waits then resets_fit resets then state_fits board.waits s);
    }
