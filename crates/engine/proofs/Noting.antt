-- The run as the code keeps it is the definition's: without a journal the interpreter's run, with one the run with a journal of distinct addresses,
-- as long as the map tells the journal's pairs.
use Prim.Native.Nat.{ℕ, zero, suc, ◌+◌, ◌/◌, ◌≤◌, ◌<◌}
use mathlib.Core.Path.{◌≡◌, refl, sym, ap, subst, subst₂, ◌∙◌}
use mathlib.Core.Bool.{Bool, true, false, cond, ◌&&◌, true≢false}
use mathlib.Core.List.{List, [], ◌∷◌}
use native.Mathlib.Omega.{arith}
use lib.Dec.{eqb, leb}
use lib.ListN.{length, length-append, length-set}
use lib.Seq.{sets, length-sets}
use borrow.Author.Tests.{ltb-true, leb-true, leb-false, le-leb, lt-leb, ne_eqb}
use Rattle.model.specs.Words.{word_at, store_word, alterable}
use Rattle.model.specs.Operands.{in_memory}
use Rattle.model.specs.Board.{Board}
use Rattle.model.specs.Interpreter as I
use Rattle.model.specs.Journal.{Pair, stored_by, has_pair, room_in, noting, Noted, within, run_one, run_noted, fresh, journal_words}
use Rattle.model.proofs.Runs.{one_more, has_words, noted-words}
use Rattle.model.proofs.Journals.{full-stays}
use Rattle.marks.specs.Marks.{Tells}
use Rattle.marks.proofs.Telling.{known-told, one-noted}
use Rattle.step.specs.Keeping.{passed_by, no_room}
use Rattle.engine.specs.Keeping.{Kept, kept_at, kept_after, keep_one, keep_run}
use Rattle.engine.proofs.Turns.{full-kept}

-- ---- full, nothing more runs

pub full-run : (board : Board) (n : ℕ) (k : Kept) → k.full ≡ true → keep_run board n k ≡ k
unfolding keep_run
full-run board zero k e = refl
full-run board (suc n) k e = ap (keep_one board) (full-run board n k e) ∙ full-kept board k e

-- ---- without a journal

passes : (r after : I.Run) (places : List ℕ) (pairs : ℕ) (stores : List Pair)
    → kept_after (kept_at r places [] pairs) stores after ≡ kept_at after places [] pairs
unfolding kept_after
passes r after places pairs [] = refl
passes r after places pairs (p ∷ ps) = refl

pub plain-run : (board : Board) (n : ℕ) (r : I.Run) (places : List ℕ) (pairs : ℕ)
    → keep_run board n (kept_at r places [] pairs) ≡ kept_at (I.interpret board n r) places [] pairs
unfolding keep_run keep_one I.interpret
plain-run board zero r places pairs = refl
plain-run board (suc n) r places pairs =
    let i = I.interpret board n r in
    ap (keep_one board) (plain-run board n r places pairs)
    ∙ passes i (I.advance board i) places pairs (stored_by board.bottom i)

-- ---- a run keeps the memory's length, and stores within it

stored-length : (memory : List ℕ) (a x : ℕ) (s b v : Bool) → length (cond s (cond b (cond v (store_word memory a x) memory) memory) memory) ≡ length memory
stored-length memory a x true true true = length-set memory a x
stored-length memory a x true true false = refl
stored-length memory a x true false v = refl
stored-length memory a x false b v = refl

pub advance-length : (board : Board) (r : I.Run) → length (I.advance board r).memory ≡ length r.memory
unfolding I.execute I.stop
advance-length board r =
    one_more board (λ (x : I.Run). length x.memory ≡ length r.memory) r
    (λ _ _. stored-length r.memory _ _ (I.is_stored r.memory r.machine) (in_memory (I.op_b r.memory r.machine)) (alterable board.bottom (I.address_b r.memory r.machine)))
    (λ _ _. refl)
    (λ _. refl)

-- an instruction that runs and alters memory does so at an address that is there
pub stores-within : (bottom : ℕ) (r : I.Run) → (I.goes_on r.ending && I.next_runs r.memory r.machine && I.alters_memory r.memory r.machine bottom) ≡ true
    → I.address_b r.memory r.machine < length r.memory
stores-within bottom r e =
    let memory = r.memory in
    let m = r.machine in
    go (I.goes_on r.ending) (I.next_runs memory m) refl (I.is_stored memory m) (in_memory (I.op_b memory m)) refl (alterable bottom (I.address_b memory m)) e
  where
    go : (g n : Bool) → I.next_runs r.memory r.machine ≡ n → (s b : Bool) → in_memory (I.op_b r.memory r.machine) ≡ b → (v : Bool)
        → (g && n && ((s && b) && v)) ≡ true → I.address_b r.memory r.machine < length r.memory
    go true true p true true q true t = ltb-true _ _ (rw q at (has_words r.memory r.machine p).second)
    go true true p true true q false t = absurd (true≢false (sym t))
    go true true p true false q v t = absurd (true≢false (sym t))
    go true true p false b q v t = absurd (true≢false (sym t))
    go true false p s b q v t = absurd (true≢false (sym t))
    go false n p s b q v t = absurd (true≢false (sym t))

-- ---- with a journal

-- the code's run beside the definition's, in a journal that was lent as `journal`, for a memory of so many words
pub record Follows (words : ℕ) (journal : List ℕ) (k : Kept) (n : Noted) : Type 0 where
  pub run : k.run ≡ n.run
  pub full : k.full ≡ n.full
  pub counted : k.pairs ≡ length n.pairs
  pub places : k.places ≡ sets journal 0 (journal_words n.pairs)
  pub told : Tells k.map k.places n.pairs words
  pub fits : length n.pairs ≤ room_in journal
  pub size : length n.run.memory ≡ words

-- the code's journal, from the definition's pairs
abbrev kept_from : (journal map : List ℕ) → I.Run → List Pair → Kept
kept_from journal map r ps = kept_at r (sets journal 0 (journal_words ps)) map (length ps)

module _ (words : ℕ) (journal map : List ℕ) (r : I.Run) (ps : List Pair) (t : Tells map (sets journal 0 (journal_words ps)) ps words)
    (fits : length ps ≤ room_in journal) (size : length r.memory ≡ words) (after : I.Run) (kept : length after.memory ≡ words) where
  abbrev places : List ℕ
  places = sets journal 0 (journal_words ps)

  same-room : room_in places ≡ room_in journal
  same-room = ap (λ (n : ℕ). n / 2) (length-sets journal 0 (journal_words ps))

  -- no store
  follows-none : Follows words journal (kept_after (kept_from journal map r ps) [] after) (within (room_in journal) (fresh r ps) [] after)
  unfolding kept_after within noting
  follows-none =
      rw (le-leb (length ps) (room_in journal) fits)
      (record { run = refl; full = refl; counted = refl; places = refl; told = t; fits = fits; size = kept })

  -- the map has words, and tells whether an address has a pair
  is_known : (p : Pair) → p.address < words → passed_by map places (length ps) p.address ≡ has_pair ps p.address
  is_known p inside =
      let some : eqb (length map) 0 ≡ false = ne_eqb (length map) 0 (λ q. absurd (omega (arith, t.long))) in
      rw some (known-told t (omega (arith, fits, same-room)) p.address inside)

  no_room_lem : no_room places (length ps) ≡ leb (room_in journal) (length ps)
  no_room_lem = ap (λ (n : ℕ). leb n (length ps)) same-room

  -- a store: its address has a pair, the journal is full, a pair is noted
  pub by-pair : (p : Pair) → p.address < words → (h : Bool) → has_pair ps p.address ≡ h → (f : Bool) → leb (room_in journal) (length ps) ≡ f
      → Follows words journal (kept_after (kept_from journal map r ps) (p ∷ []) after) (within (room_in journal) (fresh r ps) (p ∷ []) after)
  unfolding kept_after within noting
  by-pair p inside h e f g = go h e f g
    where
      go : (h : Bool) → has_pair ps p.address ≡ h → (f : Bool) → leb (room_in journal) (length ps) ≡ f
          → Follows words journal (kept_after (kept_from journal map r ps) (p ∷ []) after) (within (room_in journal) (fresh r ps) (p ∷ []) after)
      go true e f g =
          rw (is_known p inside ∙ e, e, le-leb (length ps) (room_in journal) fits)
          (record { run = refl; full = refl; counted = refl; places = refl; told = t; fits = fits; size = kept })
      go false e true g =
          rw (is_known p inside ∙ e, no_room_lem ∙ g, e, length-append ps (p ∷ []), lt-leb (length ps + 1) (room_in journal) (omega (arith, leb-true (room_in journal) (length ps) g)))
          (record { run = refl; full = refl; counted = refl; places = refl; told = t; fits = fits; size = size })
      go false e false g =
          let less = leb-false (room_in journal) (length ps) g in
          let there : length ps < room_in places = omega (arith, less, same-room) in
          rw (is_known p inside ∙ e, no_room_lem ∙ g, e, length-append ps (p ∷ []), le-leb (length ps + 1) (room_in journal) (omega (arith, less)))
          (record {
            run = refl;
            full = refl;
            counted = sym (length-append ps (p ∷ []));
            places = noted-words ps p places journal refl;
            told = one-noted t p inside e there;
            fits = omega (arith, less, length-append ps (p ∷ []));
            size = kept;
          })

-- not full: the instruction has a store or none
free_one : (board : Board) (words : ℕ) (journal map : List ℕ) (r : I.Run) (ps : List Pair) → Tells map (sets journal 0 (journal_words ps)) ps words
    → length ps ≤ room_in journal → length r.memory ≡ words
    → Follows words journal (keep_one board (kept_from journal map r ps)) (run_one board (room_in journal) (fresh r ps))
unfolding keep_one run_one stored_by
free_one board words journal map r ps t fits size =
    go (I.goes_on r.ending && I.next_runs r.memory r.machine && I.alters_memory r.memory r.machine board.bottom) refl
  where
    p : Pair
    p = record { address = I.address_b r.memory r.machine; former = word_at r.memory (I.address_b r.memory r.machine) }

    go : (c : Bool) → (I.goes_on r.ending && I.next_runs r.memory r.machine && I.alters_memory r.memory r.machine board.bottom) ≡ c
        → Follows words journal (kept_after (kept_from journal map r ps) (cond c (p ∷ []) []) (I.advance board r)) (within (room_in journal) (fresh r ps) (cond c (p ∷ []) []) (I.advance board r))
    go true e =
        by-pair words journal map r ps t fits size (I.advance board r) (advance-length board r ∙ size) p (subst (λ (n : ℕ). p.address < n) size (stores-within board.bottom r e))
        (has_pair ps p.address) refl (leb (room_in journal) (length ps)) refl
    go false e = follows-none words journal map r ps t fits size (I.advance board r) (advance-length board r ∙ size)

pub follows-one : (board : Board) (words : ℕ) (journal : List ℕ) (k : Kept) (n : Noted) → Follows words journal k n
    → Follows words journal (keep_one board k) (run_one board (room_in journal) n)
unfolding keep_one run_one
follows-one board words journal k n h = go n.full refl
  where
    go : (f : Bool) → n.full ≡ f → Follows words journal (keep_one board k) (run_one board (room_in journal) n)
    go true e =
        subst₂ (λ (x : Kept) (y : Noted). Follows words journal x y) (sym (full-kept board k (h.full ∙ e))) (sym (full-stays board (room_in journal) n e)) h
    go false e =
        let q : k ≡ kept_from journal k.map n.run n.pairs =
        λ i. record { run = h.run i; places = h.places i; map = k.map; pairs = h.counted i; full = (h.full ∙ e) i } in
        let s : n ≡ fresh n.run n.pairs = λ i. record { run = n.run; pairs = n.pairs; full = e i } in
        subst₂ (λ (x : Kept) (y : Noted). Follows words journal (keep_one board x) (run_one board (room_in journal) y)) (sym q) (sym s)
        (free_one board words journal k.map n.run n.pairs (subst (λ (l : List ℕ). Tells k.map l n.pairs words) h.places h.told) h.fits h.size)

pub follows-run : (board : Board) (words : ℕ) (journal : List ℕ) (count : ℕ) (k : Kept) (n : Noted) → Follows words journal k n
    → Follows words journal (keep_run board count k) (run_noted board (room_in journal) count n)
unfolding keep_run run_noted
follows-run board words journal zero k n h = h
follows-run board words journal (suc i) k n h =
    follows-one board words journal (keep_run board i k) (run_noted board (room_in journal) i n) (follows-run board words journal i k n h)
