-- A file as the code keeps it is the definition's, as long as the map tells the journal's pairs.
use Prim.Native.Nat.{ℕ, ◌+◌, ◌*◌, ◌/◌, ◌≤◌, ◌<◌, min}
use mathlib.Core.Path.{◌≡◌, refl, sym, ap, subst, subst₂, ◌∙◌}
use mathlib.Core.Bool.{Bool, true, false, not, cond, ◌&&◌}
use mathlib.Core.List.{List, [], ◌∷◌, ◌++◌}
use native.Mathlib.Omega.{arith}
use lib.Dec.{eqb, leb}
use lib.ListN.{length, take, drop, length-set, take-append-drop}
use lib.Seq.{sets}
use Rattle.model.specs.declared.Machine.{Machine}
use Rattle.model.specs.Words.{word_at, store_word}
use Rattle.model.specs.Interpreter.{goes_on, Run, begin}
use Rattle.model.specs.Journal.{Pair, has_pair, room_in, Noted, fresh, completes, journal_words}
use Rattle.model.proofs.Stores.{overlaid}
use Rattle.model.proofs.Runs.{words-length}
use Rattle.model.proofs.Journals.{full-within}
use Rattle.marks.specs.Marks.{forgotten, Tells}
use Rattle.marks.proofs.Telling.{forgotten-told}
use Rattle.engine.specs.Keeping.{Kept, kept_at}
use Rattle.engine.proofs.Noting.{Follows, by-pair, follows-run}
use Rattle.journal.specs.Undo.{undone, restored}
use Rattle.journal.proofs.Taking.{taken}
use Rattle.interpreter.specs.Calls.{file_board}
use Rattle.traverses.specs.Files.{Part}
use Rattle.traverses.specs.Traverse.{with_memory, lay_one, lay_all, entered, part_laid, part_noted, Progress, pairs_before}
use Rattle.traverses.proofs.Pairs.{part_restores}
use Rattle.traverse.specs.Steps.{lay_kept_one, lay_kept, laid_at, file_kept, kept_done, kept_words, map_before, count_before}

-- ---- laying

-- one word, not full
free_one : (words : ℕ) (journal map : List ℕ) (r : Run) (ps : List Pair) (place word : ℕ) → place < words → Tells map (sets journal 0 (journal_words ps)) ps words
    → length ps ≤ room_in journal → length r.memory ≡ words
    → Follows words journal (lay_kept_one (kept_at r (sets journal 0 (journal_words ps)) map (length ps)) place word) (lay_one (room_in journal) (fresh r ps) place word)
unfolding lay_kept_one lay_one
free_one words journal map r ps place word inside t fits size =
    by-pair words journal map r ps t fits size (with_memory (store_word r.memory place word) r) (length-set r.memory place word ∙ size)
    (record { address = place; former = word_at r.memory place }) inside (has_pair ps place) refl (leb (room_in journal) (length ps)) refl

lay_full : (k : Kept) (place word : ℕ) → k.full ≡ true → lay_kept_one k place word ≡ k
unfolding lay_kept_one
lay_full k place word e = rw e

full-laid : (room : ℕ) (n : Noted) (place word : ℕ) → n.full ≡ true → lay_one room n place word ≡ n
unfolding lay_one
full-laid room n place word e = full-within room n _ _ e

follows-word : (words : ℕ) (journal : List ℕ) (k : Kept) (n : Noted) (place word : ℕ) → place < words → Follows words journal k n
    → Follows words journal (lay_kept_one k place word) (lay_one (room_in journal) n place word)
follows-word words journal k n place word inside h = go n.full refl
  where
    go : (f : Bool) → n.full ≡ f → Follows words journal (lay_kept_one k place word) (lay_one (room_in journal) n place word)
    go true e =
        subst₂ (λ (x : Kept) (y : Noted). Follows words journal x y) (sym (lay_full k place word (h.full ∙ e))) (sym (full-laid (room_in journal) n place word e)) h
    go false e =
        let q : k ≡ kept_at n.run (sets journal 0 (journal_words n.pairs)) k.map (length n.pairs) =
        λ i. record { run = h.run i; places = h.places i; map = k.map; pairs = h.counted i; full = (h.full ∙ e) i } in
        let s : n ≡ fresh n.run n.pairs = λ i. record { run = n.run; pairs = n.pairs; full = e i } in
        subst₂ (λ (x : Kept) (y : Noted). Follows words journal (lay_kept_one x place word) (lay_one (room_in journal) y place word)) (sym q) (sym s)
        (free_one words journal k.map n.run n.pairs place word inside (subst (λ (l : List ℕ). Tells k.map l n.pairs words) h.places h.told) h.fits h.size)

follows-words : (words : ℕ) (journal : List ℕ) (ws : List ℕ) (k : Kept) (n : Noted) (place : ℕ) → place + length ws ≤ words → Follows words journal k n
    → Follows words journal (lay_kept k place ws) (lay_all (room_in journal) n place ws)
unfolding lay_kept lay_all
follows-words words journal [] k n place inside h = h
follows-words words journal (w ∷ ws) k n place inside h =
    follows-words words journal ws (lay_kept_one k place w) (lay_one (room_in journal) n place w) (place + 1) (omega arith)
    (follows-word words journal k n place w (omega arith) h)

-- ---- one file

-- pairs that lead a journal are in their places
same-front : (journal : List ℕ) (ps : List Pair) → take (2 * length ps) journal ≡ journal_words ps → length ps ≤ room_in journal
    → journal ≡ sets journal 0 (journal_words ps)
same-front journal ps e fits =
    let n : length (journal_words ps) ≡ 2 * length ps = words-length ps in
    let rest : drop (length (journal_words ps)) journal ≡ drop (2 * length ps) journal = ap (λ (i : ℕ). drop i journal) n in
    sym (overlaid journal (journal_words ps) (omega (arith, n)) ∙ ap (λ (l : List ℕ). journal_words ps ++ l) rest
    ∙ ap (λ (l : List ℕ). l ++ drop (2 * length ps) journal) (sym e) ∙ take-append-drop (2 * length ps) journal)

module _ (version : ℕ) (journal map : List ℕ) (t : Progress) (told : Tells map journal t.pairs (length t.memory)) (fits : length t.pairs ≤ room_in journal) where
  -- what a file starts with, by the rule
  begins : (b : Bool) (m : Machine)
      → let ps : List Pair = cond b [] t.pairs in
      Follows (length t.memory) journal
      (laid_at m t.memory journal (cond b (forgotten map (length t.memory / 1024 + 1)) map) (cond b 0 (length t.pairs)) false)
      (fresh (begin m t.memory 0) ps)
  unfolding journal_words
  begins true m =
      record { run = refl; full = refl; counted = refl; places = refl; told = forgotten-told told; fits = omega arith; size = refl }
  begins false m =
      record { run = refl; full = refl; counted = refl; places = same-front journal t.pairs told.front fits; told = told; fits = fits; size = refl }

  module _ (bottom : ℕ) (p : Part) (inside : p.file.place + length p.words ≤ length t.memory) where
    abbrev kept : Kept
    kept = file_kept t.memory bottom journal (map_before version (length t.memory) map) (count_before version (length t.pairs)) p t.machine

    abbrev n : Noted
    n = part_noted bottom (room_in journal) (pairs_before version t) t.machine t.memory p

    pub follows-file : Follows (length t.memory) journal kept n
    unfolding part_noted part_laid
    follows-file =
        follows-run (file_board bottom) (length t.memory) journal p.file.count _ _
        (follows-words (length t.memory) journal p.words _ _ p.file.place inside (begins (eqb version 1) (entered t.machine p)))

    -- it finishes where the definition's does
    pub done-is : kept_done kept ≡ completes n
    done-is =
        ap (λ (f : Bool). not f && goes_on kept.run.ending) follows-file.full ∙ ap (λ (r : Run). not n.full && goes_on r.ending) follows-file.run
        ∙ go n.full (goes_on n.run.ending)
      where
        go : (f g : Bool) → (not f && g) ≡ cond f false g
        go true g = refl
        go false g = refl

    -- and where it does not, what the pairs before it give is left
    pub words_are : kept_words kept ≡ cond (completes n) n.run.memory (restored (pairs_before version t) t.memory)
    words_are =
        let f = follows-file in
        let back : undone (min kept.pairs (room_in kept.places)) kept.places kept.run.memory ≡ restored (pairs_before version t) t.memory =
        rw (f.counted, f.places, f.run) (taken journal n.pairs f.fits n.run.memory ∙ part_restores bottom (room_in journal) (pairs_before version t) t.machine t.memory p) in
        rw (done-is, back, f.run)
