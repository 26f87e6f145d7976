-- The shared loop: where it stands after i instructions, one turn more, and its three ends.
use Rattle.std.specs.Prelude.{Result, Ok, Err}
use Prim.Native.Nat.{ℕ, ◌+◌, ◌^◌, ◌≤◌, ◌<◌}
use mathlib.Core.Path.{◌≡◌, refl, sym, ap, subst₂, ◌∙◌}
use mathlib.Core.Bool.{Bool, true, false, cond, ◌&&◌, true≢false}
use mathlib.Core.List.{List, [], ◌∷◌}
use native.Mathlib.Nat.{add_assoc}
use native.Mathlib.Numerals.{add-one}
use native.Mathlib.Omega.{arith}
use lib.Seq.{set-set, set-get_or}
use Rattle.model.specs.declared.Machine.{Machine}
use Rattle.model.specs.declared.Ending.{Ending}
use Rattle.model.specs.declared.Ending.TheVariants.{Finished}
use Rattle.model.specs.Words.{word_at, store_word, alterable}
use Rattle.model.specs.Operands.{in_memory}
use Rattle.model.specs.Waits.{wait_at, position_fits}
use Rattle.model.specs.Board.{Board}
use Rattle.model.specs.Interpreter as I
use Rattle.model.specs.Journal.{Pair, stored_by, noted}
use Rattle.model.specs.Packed.{packed_of, packed_machine}
use Rattle.model.proofs.Cases.{onward}
use Rattle.model.proofs.Packed.{unpacks}
use Rattle.model.proofs.Runs.{run_at, stays, no_store}
use Rattle.model.proofs.Waits.{after-fits}
use Rattle.model.proofs.Bounds.{clocks-le}
use Rattle.step.specs.declared.Stepped.{Stepped}
use Rattle.step.specs.Keeping.{passed_by, no_room, Keeps}
use Rattle.step.specs.Steps.{Steps}
use Rattle.step.proofs.Answers.{runs, next-kept, is-stepped, next-regs, next-flags, goes-no-more, same_regs, same-words, same-places, same-marks, same-pairs, stops, stores, stores-none}
use Rattle.marks.specs.declared.Noting.{Noting}
use Rattle.marks.specs.Marks.{with_mark, noting_at}
use Rattle.engine.specs.declared.clocks.Spent.{Spent}
use Rattle.engine.specs.declared.Ended.{Ended}
use Rattle.engine.specs.Clocks.{spent_of}
use Rattle.engine.specs.Keeping.{Kept, kept_at, kept_after, keep_one, keep_run}
use Rattle.engine.specs.Engine.{ended_at, ended_of, EngineEnds}

-- ---- one turn of the definition

module _ (board : Board) {regs memory journal map : List ℕ} {pairs flags : ℕ} {regs' memory' journal' map' : List ℕ} {pairs' : ℕ} {s : Result Stepped Ending}
    (h : Steps regs memory board.bottom journal map pairs flags regs' memory' journal' map' pairs' s) where
  abbrev m : Machine
  m = packed_machine regs flags

  -- the memory with the instruction's store
  abbrev words : List ℕ
  words = I.next_memory memory m board.bottom

  advances : (p i c : ℕ) {x : Stepped} → s ≡ Ok x → x.full ≡ false
      → {w : Spent} → w ≡ spent_of board.waits (record { clocks = c; position = p }) x.oa x.ob x.stored
      → I.advance board (run_at m memory p i c) ≡ run_at (packed_machine regs' x.flags) words w.position (i + 1) w.clocks
  unfolding I.advance I.execute
  advances p i c e f g =
      let at = run_at m memory p i c in
      ap (λ (t : Bool). cond t (I.execute board at) (I.stop (I.next_ending memory m) at)) (runs h e)
      ∙ rw (next-regs h e f, next-flags h e f, g, is-stepped h e f, add_assoc c (I.base_clocks memory m))

  abbrev alters : Bool
  alters = I.alters_memory memory m board.bottom

  -- taken back, the store leaves the memory before
  back : alters ≡ true → store_word words (I.address_b memory m) (I.value_b memory m) ≡ memory
  back t = go (I.is_stored memory m) (in_memory (I.op_b memory m)) (alterable board.bottom (I.address_b memory m)) (I.address_b memory m) _ _ t
    where
      go : (s b v : Bool) (a x f : ℕ) → ((s && b) && v) ≡ true
          → store_word (cond s (cond b (cond v (store_word memory a x) memory) memory) memory) a (cond b (word_at memory a) f) ≡ memory
      go true true true a x f t = set-set memory a x (word_at memory a) ∙ set-get_or memory a 0
      go true true false a x f t = absurd (true≢false (sym t))
      go true false v a x f t = absurd (true≢false (sym t))
      go false b v a x f t = absurd (true≢false (sym t))

-- ---- one instruction kept, and none more after a stop

kept-none : (board : Board) (r after : I.Run) (places map : List ℕ) (pairs : ℕ) → stored_by board.bottom r ≡ [] → I.advance board r ≡ after
    → keep_one board (kept_at r places map pairs) ≡ kept_at after places map pairs
unfolding keep_one kept_after
kept-none board r after places map pairs e f = rw (e, f)

stopped-kept : (board : Board) (r : I.Run) (places map : List ℕ) (pairs : ℕ) → I.goes_on r.ending ≡ false
    → keep_one board (kept_at r places map pairs) ≡ kept_at r places map pairs
stopped-kept board r places map pairs e = kept-none board r r places map pairs (no_store board board.bottom r e) (stays board r e)

pub full-kept : (board : Board) (k : Kept) → k.full ≡ true → keep_one board k ≡ k
unfolding keep_one
full-kept board k e = rw e

-- from an instruction that changes nothing on, all are alike
kept_on : (board : Board) (k₀ k : Kept) {i n : ℕ} → i ≤ n → keep_run board i k₀ ≡ k → keep_one board k ≡ k → keep_run board n k₀ ≡ k
unfolding keep_run
kept_on board k₀ k h e s = onward (λ (j : ℕ). keep_run board j k₀ ≡ k) h e (λ j _ p. ap (keep_one board) p ∙ s)

abbrev filled : I.Run → (places map : List ℕ) → (pairs : ℕ) → Kept
filled r places map pairs = record { run = r; places = places; map = map; pairs = pairs; full = true }

kept_store : (board : Board) (r after : I.Run) (places map : List ℕ) (pairs : ℕ) (p : Pair) → stored_by board.bottom r ≡ p ∷ [] → I.advance board r ≡ after
    → keep_one board (kept_at r places map pairs)
    ≡ cond (passed_by map places pairs p.address) (kept_at after places map pairs)
    (cond (no_room places pairs) (filled r places map pairs)
    (kept_at after (noted places pairs p.address p.former) (with_mark map p.address) (pairs + 1)))
unfolding keep_one kept_after
kept_store board r after places map pairs p e f = rw (e, f)

-- ---- the loop

module _ (memory₀ : List ℕ) (board : Board) (from : ℕ) (journal₀ map₀ : List ℕ) (pairs₀ : ℕ) (start : Machine) (count : ℕ) where
  abbrev first : Kept
  first = kept_at (I.begin start memory₀ from) journal₀ map₀ pairs₀

  -- after i instructions, all of which ran
  pub record At (memory journal map regs : List ℕ) (flags position clocks pairs i : ℕ) : Type 0 where
    pub state : keep_run board i first ≡ kept_at (run_at (packed_machine regs flags) memory position i clocks) journal map pairs
    pub ran : I.interpret board i (I.begin start memory₀ from) ≡ run_at (packed_machine regs flags) memory position i clocks
    pub fits : position_fits board.waits position ≡ true

module _ {memory₀ : List ℕ} {board : Board} {from : ℕ} {journal₀ map₀ : List ℕ} {pairs₀ : ℕ} {start : Machine} {count : ℕ} {memory journal map regs : List ℕ} {flags position clocks pairs i : ℕ}
    (a : At memory₀ board from journal₀ map₀ pairs₀ start count memory journal map regs flags position clocks pairs i) where
  abbrev first' : Kept
  first' = first memory₀ board from journal₀ map₀ pairs₀ start count

  abbrev here : I.Run
  here = run_at (packed_machine regs flags) memory position i clocks

  -- the end of a run that comes to k
  ends : (k : Kept) → keep_run board count first' ≡ k → {e : Ended} → e ≡ ended_of start k → {memory' journal' map' : List ℕ}
      → memory' ≡ k.run.memory → journal' ≡ k.places → map' ≡ k.map → EngineEnds memory₀ board from journal₀ map₀ pairs₀ start count memory' journal' map' e
  ends k q e w p n = record { result = rw q e; words = rw q w; places = rw q p; marks = rw q n }

  module _ (less : i < count) where
    -- with waits of 16 bits and counts of 32 bits, the clocks fit 64 bits by far
    pub clocks-fit : ((p : ℕ) → wait_at board.waits p ≤ 65535) → count < 2 ^ 32 → clocks < 2 ^ 61
    clocks-fit short few = omega (arith, ap (λ (r : I.Run). r.clocks) a.ran, clocks-le board 65535 short i (I.begin start memory₀ from))

    next : keep_run board (i + 1) first' ≡ keep_one board (kept_at here journal map pairs)
    unfolding keep_run
    next = ap (λ (n : ℕ). keep_run board n first') (add-one i) ∙ ap (keep_one board) a.state

    ran_on : I.interpret board (i + 1) (I.begin start memory₀ from) ≡ I.advance board here
    unfolding I.interpret
    ran_on = ap (λ (n : ℕ). I.interpret board n (I.begin start memory₀ from)) (add-one i) ∙ ap (I.advance board) a.ran

    module _ {regs' memory' journal' map' : List ℕ} {pairs' : ℕ} {s : Result Stepped Ending}
        (h : Steps regs memory board.bottom journal map pairs flags regs' memory' journal' map' pairs' s) where
      pub stopped : {d : Ending} → s ≡ Err d → {r : Ended} → r ≡ ended_at false d (packed_machine regs' flags) position i clocks pairs'
          → EngineEnds memory₀ board from journal₀ map₀ pairs₀ start count memory' journal' map' r
      unfolding I.stop
      stopped {d} e g =
          let last : I.Run = I.stop d here in
          let one = next ∙ kept-none board here last journal map pairs (stores-none h board position i clocks e) (stops h board position i clocks e) in
          ends (kept_at last journal map pairs)
          (kept_on board first' (kept_at last journal map pairs) (omega arith) one (stopped-kept board last journal map pairs (goes-no-more h e)))
          (rw (g, same_regs h e, same-pairs h e)) (same-words h e) (same-places h e) (same-marks h e)

      -- the instruction ran, and its store was kept
      module _ {x : Stepped} (e : s ≡ Ok x) where
        abbrev b : Machine
        b = packed_machine regs flags

        abbrev words' : List ℕ
        words' = words board h

        -- as it was kept: it goes on, or the journal is full
        record Goes (after : I.Run) : Type 0 where
          onward : x.full ≡ false → (keep_run board (i + 1) first' ≡ kept_at after journal' map' pairs') × (memory' ≡ words')
          ended : x.full ≡ true
              → (keep_run board (i + 1) first' ≡ filled here journal map pairs) × (memory' ≡ memory) × (journal' ≡ journal) × (map' ≡ map) × (pairs' ≡ pairs)

        abbrev full_of : Noting → Bool
        full_of n = n.full

        abbrev pairs_of : Noting → ℕ
        pairs_of n = n.pairs

        -- no store
        passes : (after : I.Run) {a f : ℕ} → Keeps words' journal map pairs false a f memory' journal' map' (noting_at x.full pairs')
            → keep_one board (kept_at here journal map pairs) ≡ kept_at after journal map pairs → Goes after
        passes after g q =
            record {
              onward = λ f. (next ∙ q ∙ rw (g.places, g.marks, ap pairs_of g.result), g.words);
              ended = λ f. absurd (true≢false (sym f ∙ ap full_of g.result));
            }

        -- a store: known, without room, noted
        stored : (p : Pair) → Keeps words' journal map pairs true p.address p.former memory' journal' map' (noting_at x.full pairs') → (after : I.Run)
            → keep_run board (i + 1) first'
            ≡ cond (passed_by map journal pairs p.address) (kept_at after journal map pairs)
            (cond (no_room journal pairs) (filled here journal map pairs)
            (kept_at after (noted journal pairs p.address p.former) (with_mark map p.address) (pairs + 1)))
            → store_word words' p.address p.former ≡ memory
            → (v : Bool) → passed_by map journal pairs p.address ≡ v → (y : Bool) → no_room journal pairs ≡ y → Goes after
        stored p g after kept undo true c y d =
            record {
              onward = λ f. (rw c at kept ∙ rw (rw c at g.places, rw c at g.marks, ap pairs_of (rw c at g.result)), rw c at g.words);
              ended = λ f. absurd (true≢false (sym f ∙ ap full_of (rw c at g.result)));
            }
        stored p g after kept undo false c true d =
            record {
              onward = λ f. absurd (true≢false (sym (ap full_of (rw (c, d) at g.result)) ∙ f));
              ended = λ f. (rw (c, d) at kept, rw (c, d) at g.words ∙ undo, rw (c, d) at g.places, rw (c, d) at g.marks, ap pairs_of (rw (c, d) at g.result));
            }
        stored p g after kept undo false c false d =
            record {
              onward = λ f. (rw (c, d) at kept ∙ rw (rw (c, d) at g.places, rw (c, d) at g.marks, ap pairs_of (rw (c, d) at g.result)), rw (c, d) at g.words);
              ended = λ f. absurd (true≢false (sym f ∙ ap full_of (rw (c, d) at g.result)));
            }

        goes : (after : I.Run) → I.advance board here ≡ after → Goes after
        goes after n = by (alters board h) refl
          where
            by : (t : Bool) → alters board h ≡ t → Goes after
            by false q =
                passes after (rw q at (next-kept h e)) (kept-none board here after journal map pairs (stores h board position i clocks e ∙ rw q) n)
            by true q =
                let p : Pair = record { address = I.address_b memory b; former = I.value_b memory b } in
                let kept = next ∙ kept_store board here after journal map pairs p (stores h board position i clocks e ∙ rw q) n in
                stored p (rw q at (next-kept h e)) after kept (back board h q) (passed_by map journal pairs p.address) refl (no_room journal pairs) refl

      pub turn : {x : Stepped} → s ≡ Ok x → x.full ≡ false
          → {w : Spent} → w ≡ spent_of board.waits (record { clocks = clocks; position = position }) x.oa x.ob x.stored
          → At memory₀ board from journal₀ map₀ pairs₀ start count memory' journal' map' regs' x.flags w.position w.clocks pairs' (i + 1)
      turn {x} e f {w} d =
          let q = advances board h position i clocks e f d in
          let (kept, same) = (goes e (run_at (packed_machine regs' x.flags) (words board h) w.position (i + 1) w.clocks) q).onward f in
          record {
            state = kept ∙ rw same;
            ran = ran_on ∙ q ∙ rw same;
            fits = rw d (after-fits board.waits _ position a.fits);
          }

      pub full : {x : Stepped} → s ≡ Ok x → x.full ≡ true
          → {m : Machine} → m ≡ start → {d : Ended} → d ≡ ended_at true Finished m position i clocks pairs' → EngineEnds memory₀ board from journal₀ map₀ pairs₀ start count memory' journal' map' d
      full e f is q =
          let (kept, same, places, marks, counted) = (goes e (I.advance board here) refl).ended f in
          ends (filled here journal map pairs)
          (kept_on board first' (filled here journal map pairs) (omega arith) kept (full-kept board (filled here journal map pairs) refl))
          (q ∙ rw (is, counted)) same places marks

  pub finished : count ≡ i → {e : Ended} → e ≡ ended_at false Finished (packed_machine regs flags) position count clocks pairs
      → EngineEnds memory₀ board from journal₀ map₀ pairs₀ start count memory journal map e
  finished n g =
      ends (kept_at here journal map pairs) (ap (λ (m : ℕ). keep_run board m first') n ∙ a.state) (g ∙ rw n) refl refl refl

-- ---- from the packed flags of a start

pub begins : {memory : List ℕ} {board : Board} {from : ℕ} {journal map : List ℕ} {pairs : ℕ} {regs : List ℕ} {flags count : ℕ} → position_fits board.waits from ≡ true
    → At memory board from journal map pairs (packed_machine regs flags) count memory journal map regs flags from 0 pairs 0
unfolding I.interpret keep_run
begins fits =
    record { state = refl; ran = refl; fits = fits }

pub same_start : {start : Machine} {flags : ℕ} → flags ≡ packed_of start.flags → packed_machine start.regs flags ≡ start
same_start {start} packs = rw (packs, unpacks start.flags)

pub from_start : {memory : List ℕ} {board : Board} {from position : ℕ} {journal map : List ℕ} {pairs : ℕ} {start : Machine} {flags count : ℕ} {memory' journal' map' : List ℕ} {e : Ended}
    → flags ≡ packed_of start.flags → position ≡ from → EngineEnds memory board position journal map pairs (packed_machine start.regs flags) count memory' journal' map' e
    → EngineEnds memory board from journal map pairs start count memory' journal' map' e
from_start {memory} {board} {from} {position} {journal} {map} {pairs} {start} {flags} {count} {memory'} {journal'} {map'} {e} packs there h =
    subst₂ (λ (p : ℕ) (s : Machine). EngineEnds memory board p journal map pairs s count memory' journal' map' e) there (same_start packs) h
