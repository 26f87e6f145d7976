-- No address stands twice among the pairs that a file run or a traverse leaves in the journal, and the pairs have room.
use Rattle.std.specs.Prelude.{Ok, Err}
use Prim.Native.Nat.{ℕ, zero, suc, ◌*◌, ◌≤◌, ◌<◌}
use mathlib.Core.Path.{◌≡◌, refl, sym, ap, ◌∙◌}
use mathlib.Core.Bool.{Bool, true, false, not, ◌&&◌, ◌||◌, true≢false}
use mathlib.Core.List.{List, [], ◌∷◌, ◌++◌}
use native.Mathlib.Omega.{arith}
use lib.Dec.{eqb}
use lib.ListN.{length}
use borrow.Author.Tests.{eq-eqb}
use Rattle.model.specs.Words.{word_at, overlay}
use Rattle.model.specs.Journal.{Pair, has_pair, Noted, run_one, run_noted, room_in, journal_words}
use Rattle.model.specs.Refusals.{left_by, file_verdict, Verdict}
use Rattle.model.proofs.Journals.{by-room, run-keeps, room-kept}
use Rattle.interpreter.specs.Calls.{file_board, file_result, whole_file, file_returned, file_places}
use Rattle.traverses.specs.Files.{parts, files_in}
use Rattle.traverses.specs.Traverse.{Progress, set_out}
use Rattle.traverses.specs.Calls.{traverse_result, verdict_here, whole_traverse, traverse_returned, traverse_places}
use Rattle.traverses.specs.Theorems.{Distinct, FileDistinct, TraverseDistinct}
use Rattle.traverses.proofs.Noting.{distinct, noting-distinct, traverse_keeps}
use Rattle.traverses.proofs.Pairs.{Leads, traverse_leads}

-- ---- by places

-- the address at a pair's first place has a pair
has-at : (ps : List Pair) (rest : List ℕ) (i : ℕ) → i < length ps → has_pair ps (word_at (journal_words ps ++ rest) (2 * i)) ≡ true
unfolding has_pair journal_words
has-at [] rest i l = absurd (omega arith)
has-at (p ∷ ps) rest zero l = rw (eq-eqb p.address p.address refl)
has-at (p ∷ ps) rest (suc i) l =
    let e : 2 * suc i ≡ suc (suc (2 * i)) = omega arith in
    rw (e, has-at ps rest i (omega arith)) (or_true (eqb p.address (word_at (journal_words ps ++ rest) (2 * i))))
  where
    or_true : (b : Bool) → (b || true) ≡ true
    or_true true = refl
    or_true false = refl

once : (ps : List Pair) (rest : List ℕ) → distinct ps ≡ true → (i j : ℕ) → i < length ps → j < length ps
    → word_at (journal_words ps ++ rest) (2 * i) ≡ word_at (journal_words ps ++ rest) (2 * j) → i ≡ j
unfolding distinct journal_words
once [] rest d i j l m e = absurd (omega arith)
once (p ∷ ps) rest d i j l m e = go i j l m e (λ x y. once ps rest less x y)
  where
    first : (i : ℕ) → i < length ps → p.address ≡ word_at (journal_words ps ++ rest) (2 * i) → ⊥
    first i l e = by (has_pair ps p.address) refl d
      where
        by : (b : Bool) → has_pair ps p.address ≡ b → (not b && distinct ps) ≡ true → ⊥
        by true q f = true≢false (sym f)
        by false q f = true≢false (sym (has-at ps rest i l) ∙ ap (has_pair ps) (sym e) ∙ q)

    less : distinct ps ≡ true
    less = by (has_pair ps p.address) d
      where
        by : (b : Bool) → (not b && distinct ps) ≡ true → distinct ps ≡ true
        by true f = absurd (true≢false (sym f))
        by false f = f

    go : (i j : ℕ) → i < length (p ∷ ps) → j < length (p ∷ ps)
        → word_at (journal_words (p ∷ ps) ++ rest) (2 * i) ≡ word_at (journal_words (p ∷ ps) ++ rest) (2 * j)
        → ((x y : ℕ) → x < length ps → y < length ps → word_at (journal_words ps ++ rest) (2 * x) ≡ word_at (journal_words ps ++ rest) (2 * y) → x ≡ y)
        → i ≡ j
    go zero zero l m e others = refl
    go zero (suc j) l m e others =
        let b : 2 * suc j ≡ suc (suc (2 * j)) = omega arith in absurd (first j (omega arith) (rw b at e))
    go (suc i) zero l m e others =
        let a : 2 * suc i ≡ suc (suc (2 * i)) = omega arith in absurd (first i (omega arith) (sym (rw a at e)))
    go (suc i) (suc j) l m e others =
        let a : 2 * suc i ≡ suc (suc (2 * i)) = omega arith in
        let b : 2 * suc j ≡ suc (suc (2 * j)) = omega arith in
        ap suc (others i j (omega arith) (omega arith) (rw (a, b) at e))

module _ (journal rest : List ℕ) (ps : List Pair) (d : distinct ps ≡ true) (fits : length ps ≤ room_in journal) where
  places-distinct : Distinct journal (journal_words ps ++ rest) (length ps)
  places-distinct = record { once = λ i j l m e. once ps rest d i j l m e; room = omega arith }

none-distinct : (journal journal' : List ℕ) → Distinct journal journal' 0
none-distinct journal journal' = record { once = λ i j l m e. absurd (omega arith); room = omega arith }

-- ---- the calls

run-distinct : (bottom room n : ℕ) (k : Noted) → distinct k.pairs ≡ true → distinct (run_noted (file_board bottom) room n k).pairs ≡ true
unfolding run_one
run-distinct bottom room n k h =
    let D : Noted → Type 0 = λ x. distinct x.pairs ≡ true in
    run-keeps (file_board bottom) room D
    (λ x d. by-room room D x _ _ (λ _. d) (λ _ _. noting-distinct _ x.pairs d) (λ _ _. d)) n k h

pub file-distinct : FileDistinct
unfolding file_returned file_places distinct
file-distinct memory bottom journal start count memory' journal' r c =
    rw (c.result, c.places) (by (file_verdict memory bottom))
  where
    k : Noted
    k = whole_file memory bottom journal start count

    by : (v : Verdict) → Distinct journal (left_by v (overlay (journal_words k.pairs) journal) journal) (file_result v start k).pairs
    by (Ok u) =
        places-distinct journal _ k.pairs (run-distinct bottom (room_in journal) count _ refl)
        (room-kept (file_board bottom) (room_in journal) count _ (omega arith))
    by (Err why) = none-distinct journal journal

pub traverse_distinct : TraverseDistinct
unfolding traverse_returned traverse_places distinct journal_words
traverse_distinct memory bottom journal load files start version memory' journal' r c =
    rw (c.result, c.places) (by (verdict_here memory bottom journal load files start version))
  where
    t : Progress
    t = whole_traverse memory bottom journal load files start version

    out : Progress
    out = set_out start memory journal

    leads : Leads t
    leads = traverse_leads bottom version (room_in journal) (parts (files_in files) load) out (record { rest = journal; same = refl })

    by : (v : Verdict) → Distinct journal (left_by v t.places journal) (traverse_result v version start t).pairs
    by (Ok u) =
        rw leads.same
        (places-distinct journal leads.rest t.pairs
        (traverse_keeps bottom (room_in journal) (λ (ps : List Pair). distinct ps ≡ true) (λ pairs stores _. noting-distinct stores pairs) refl version
        (parts (files_in files) load) out refl)
        (traverse_keeps bottom (room_in journal) (λ (ps : List Pair). length ps ≤ room_in journal) (λ pairs stores fits _. fits) (omega arith) version
        (parts (files_in files) load) out (omega arith)))
    by (Err why) = none-distinct journal journal
