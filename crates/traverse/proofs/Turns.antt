-- The loop over the files: where it stands after i of them, one more, and what it then is.
use Prim.Native.Nat.{ℕ, ◌+◌, ◌/◌, ◌^◌, ◌≤◌, ◌<◌}
use mathlib.Core.Path.{◌≡◌, refl, sym, ap, ap₂, subst, ◌∙◌}
use mathlib.Core.Bool.{Bool, true, false, not, cond, ◌&&◌, and-eq-true_iff}
use mathlib.Core.List.{List, [], ◌∷◌}
use native.Mathlib.Nat.{zero-add}
use native.Mathlib.Omega.{arith}
use lib.Dec.{eqb}
use lib.ListN.{length, drop, replicate, length-take, length-replicate}
use lib.Pow.{pow_pos}
use lib.Seq.{drop-drop}
use borrow.Author.Tests.{leb-true, eqb-true, not-false}
use Rattle.model.specs.declared.Machine.{Machine}
use Rattle.model.specs.Words.{overlay}
use Rattle.model.specs.Interpreter.{Run}
use Rattle.model.specs.Journal.{room_in, Noted, completes, journal_words}
use Rattle.marks.specs.Marks.{Tells}
use Rattle.marks.proofs.Telling.{none_told}
use Rattle.engine.specs.Keeping.{Kept}
use Rattle.engine.proofs.Noting.{Follows}
use Rattle.journal.specs.Undo.{restored}
use Rattle.journal.proofs.Taking.{laid-over}
use Rattle.traverses.specs.declared.File.{File}
use Rattle.traverses.specs.Files.{file_at, files_in, Part, parts, sizes, fits_memory, above_bottom, placed, all_placed}
use Rattle.traverses.specs.Traverse.{Progress, set_out, pairs_before, taken_back, file_noted, one_file, traversed}
use Rattle.traverses.specs.Calls.{whole_traverse}
use Rattle.traverses.proofs.Reasons.{Bounds}
use Rattle.traverses.proofs.Pairs.{part_restores}
use Rattle.traverses.proofs.Masks.{small}
use Rattle.file_list.proofs.Lists.{one_more}
use Rattle.traverse.specs.declared.walk.Walk.{Walk}
use Rattle.traverse.specs.Steps.{file_kept, kept_done, kept_words, part_at, map_before, count_before, next_kept, outset, NextFits, walk_of, Goes}
use Rattle.traverse.proofs.Following.{follows-file, done-is, words_are}

-- under rule 2 a traverse that is not taken back has nothing undone
pub none-undone : (version x : ℕ) → eqb version 1 ≡ false → (not (eqb version 1) && not (eqb x 0)) ≡ false → x ≡ 0
none-undone version x two e = eqb-true x 0 (not-false _ (rw two at e))

-- ---- the loop

module _ (memory₀ : List ℕ) (bottom : ℕ) (journal₀ load files : List ℕ) (start : Machine) (version : ℕ) where
  abbrev fs : List File
  fs = files_in files

  abbrev whole : Progress
  whole = whole_traverse memory₀ bottom journal₀ load files start version

  -- after i files, none of which took the traverse back
  pub record At (memory journal map : List ℕ) (w : Walk) (i : ℕ) : Type 0 where
    pub so_far : Progress
    pub rest : traversed bottom version (room_in journal₀) (parts (drop i fs) (drop w.at load)) so_far ≡ whole
    pub machine : w.machine ≡ so_far.machine
    pub words : memory ≡ so_far.memory
    pub counted : w.pairs ≡ length so_far.pairs
    pub places : journal ≡ so_far.places
    pub number : so_far.files ≡ i
    pub undone : w.undone ≡ so_far.undone
    pub ran : w.ran ≡ so_far.ran
    pub low : w.undone < 2 ^ i
    pub laid : w.at + sizes (drop i fs) ≡ length load
    pub placed : all_placed (drop i fs) memory₀ bottom ≡ true
    pub size : length memory ≡ length memory₀
    pub long : length journal ≡ length journal₀
    pub marks : length map ≡ 49184
    pub told : Tells map journal so_far.pairs (length memory)
    pub fits : length so_far.pairs ≤ room_in journal
    pub restores : eqb version 1 ≡ false → restored so_far.pairs so_far.memory ≡ memory₀
    pub none : eqb version 1 ≡ false → so_far.undone ≡ 0

module _ {memory : List ℕ} {bottom : ℕ} {journal load files : List ℕ} {start : Machine} {version : ℕ} (b : Bounds memory bottom load (files_in files)) where
  pub begins : At memory bottom journal load files start version memory journal (replicate 49184 0) (outset start) 0
  unfolding restored
  begins =
      record {
        so_far = set_out start memory journal;
        rest = refl;
        machine = refl;
        words = refl;
        counted = refl;
        places = refl;
        number = refl;
        undone = refl;
        ran = refl;
        low = omega arith;
        laid = zero-add _ ∙ b.laid;
        placed = b.placed;
        size = refl;
        long = refl;
        marks = length-replicate {A = ℕ} 49184 0;
        told = none_told journal (length memory) b.size;
        fits = omega arith;
        restores = λ _. refl;
        none = λ _. refl;
      }

module _ {memory₀ : List ℕ} {bottom : ℕ} {journal₀ load files : List ℕ} {start : Machine} {version : ℕ} (b : Bounds memory₀ bottom load (files_in files)) {memory journal map : List ℕ} {w : Walk} {i : ℕ}
    (a : At memory₀ bottom journal₀ load files start version memory journal map w i) (less : i < length (files_in files)) where
  abbrev f : File
  f = file_at files i

  abbrev later : List File
  later = drop (i + 1) (files_in files)

  from_here : drop i (files_in files) ≡ f ∷ later
  from_here = one_more (files_in files) i refl less

  sizes-here : sizes (drop i (files_in files)) ≡ f.size + sizes later
  unfolding sizes
  sizes-here = ap sizes from_here

  placed-here : (placed memory₀ bottom f ≡ true) × (all_placed later memory₀ bottom ≡ true)
  unfolding all_placed
  placed-here = (and-eq-true_iff (placed memory₀ bottom f) _).0 (sym (ap (λ (l : List File). all_placed l memory₀ bottom) from_here) ∙ a.placed)

  lies : f.place + f.size ≤ length memory₀
  lies = leb-true (f.place + f.size) (length memory₀) ((and-eq-true_iff (fits_memory memory₀ f) (above_bottom bottom f)).0 placed-here.0).0

  pub next_fits : NextFits map load files i w
  next_fits =
      record {
        number = omega (arith, b.number);
        mask = a.low;
        laid = omega (arith, a.laid, sizes-here);
        lies = omega (arith, lies, b.size);
        some = omega (arith, a.told.long);
      }

  -- ---- one file more
  module _ {memory' journal' map' : List ℕ} {r : Walk} (h : Goes memory bottom journal map load files version i w memory' journal' map' r) where
    abbrev pub here : Part
    here = part_at files load i w.at

    abbrev pub t : Progress
    t = a.so_far

    abbrev pub u : Progress
    u = one_file bottom version (room_in journal₀) t here

    abbrev pub n : Noted
    n = file_noted bottom version (room_in journal₀) t here

    -- the journal's room stays
    same-room : room_in journal ≡ room_in journal₀
    same-room = ap (λ (n : ℕ). n / 2) a.long

    abbrev kept : Kept
    kept =
        file_kept t.memory bottom journal (map_before version (length t.memory) map) (count_before version (length t.pairs)) here t.machine

    is-kept : next_kept memory bottom journal map load files version i w ≡ kept
    is-kept =
        ap₂ (λ (l : List ℕ) (c : ℕ). file_kept l bottom journal (map_before version (length l) map) (count_before version c) here w.machine) a.words a.counted
        ∙ ap (file_kept t.memory bottom journal (map_before version (length t.memory) map) (count_before version (length t.pairs)) here) a.machine

    told : Tells map journal t.pairs (length t.memory)
    told = subst (λ (l : List ℕ). Tells map journal t.pairs (length l)) a.words a.told

    inside : f.place + length here.words ≤ length t.memory
    inside = omega (arith, lies, length-take f.size (drop w.at load), ap length a.words, a.size)

    -- the file as the code keeps it is the definition's
    pub follows : Follows (length t.memory) journal kept n
    follows =
        subst (λ (x : ℕ). Follows (length t.memory) journal kept (file_noted bottom version x t here)) same-room
        (follows-file version journal map t told a.fits bottom here inside)

    pub done : kept_done kept ≡ completes n
    done =
        subst (λ (x : ℕ). kept_done kept ≡ completes (file_noted bottom version x t here)) same-room (done-is version journal map t told a.fits bottom here inside)

    left : kept_words kept ≡ cond (completes n) n.run.memory (restored (pairs_before version t) t.memory)
    left =
        subst
        (λ (x : ℕ).
        let n = file_noted bottom version x t here in kept_words kept ≡ cond (completes n) n.run.memory (restored (pairs_before version t) t.memory))
        same-room (words_are version journal map t told a.fits bottom here inside)

    walked : r ≡ walk_of kept i f.size w
    walked = h.result ∙ ap (λ (k : Kept). walk_of k i f.size w) is-kept

    pub at-is : r.at ≡ w.at + f.size
    at-is = ap (λ (x : Walk). x.at) walked

    pub goes_on : cond (taken_back version u) u (traversed bottom version (room_in journal₀) (parts later (drop r.at load)) u) ≡ whole_traverse memory₀ bottom journal₀ load files start version
    unfolding traversed parts
    goes_on =
        let e : drop f.size (drop w.at load) ≡ drop r.at load = drop-drop f.size w.at load ∙ ap (λ (n : ℕ). drop n load) (sym at-is) in
        rw (sym e) (rw from_here at a.rest)

    machine-is : r.machine ≡ u.machine
    unfolding one_file
    machine-is = ap (λ (x : Walk). x.machine) walked ∙ (λ j. cond (done j) (follows.run j).machine (a.machine j))

    pub undone-is : r.undone ≡ u.undone
    unfolding one_file
    undone-is = ap (λ (x : Walk). x.undone) walked ∙ (λ j. cond (done j) (a.undone j) (a.undone j + 2 ^ sym a.number j))

    pub ran-is : r.ran ≡ u.ran
    unfolding one_file
    ran-is = ap (λ (x : Walk). x.ran) walked ∙ ap (λ (r : Run). r.ran) follows.run

    pub full_is : r.full ≡ u.full
    unfolding one_file
    full_is = ap (λ (x : Walk). x.full) walked ∙ follows.full

    pub counted_is : r.pairs ≡ length u.pairs
    unfolding one_file
    counted_is = ap (λ (x : Walk). x.pairs) walked ∙ follows.counted

    pub places-are : journal' ≡ u.places
    unfolding one_file
    places-are =
        h.places ∙ ap (λ (k : Kept). k.places) is-kept ∙ follows.places ∙ laid-over journal n.pairs follows.fits
        ∙ ap (overlay (journal_words n.pairs)) a.places

    -- by the rule: what is left where it does not finish
    pub words_left : memory' ≡ cond (completes n) n.run.memory (restored (pairs_before version t) t.memory)
    words_left = h.words ∙ ap kept_words is-kept ∙ left

    told-on : Tells map' journal' u.pairs (length t.memory)
    unfolding one_file
    told-on =
        subst (λ (l : List ℕ). Tells map' l n.pairs (length t.memory)) (sym (h.places ∙ ap (λ (k : Kept). k.places) is-kept))
        (subst (λ (l : List ℕ). Tells l kept.places n.pairs (length t.memory)) (sym (h.marks ∙ ap (λ (k : Kept). k.map) is-kept)) follows.told)

    -- whether this file takes the traverse back, as the code asks
    module _ {back : Bool} (e : (not (eqb version 1) && not (eqb r.undone 0)) ≡ back) where
      pub taken_is : taken_back version u ≡ back
      taken_is = ap (λ (n : ℕ). not (eqb version 1) && not (eqb n 0)) (sym undone-is) ∙ e

    -- under rule 2, where nothing is undone, the file finished
    pub finished : eqb version 1 ≡ false → u.undone ≡ 0 → completes n ≡ true
    unfolding one_file
    finished two z = go (completes n) refl z
      where
        go : (d : Bool) → completes n ≡ d → cond d t.undone (t.undone + 2 ^ t.files) ≡ 0 → completes n ≡ true
        go true e q = e
        go false e q = absurd (omega (arith, q, pow_pos t.files))

    -- so the memory is the definition's
    words-on : taken_back version u ≡ false → (v : Bool) → eqb version 1 ≡ v → memory' ≡ u.memory
    unfolding one_file restored
    words-on e true q =
        words_left ∙ ap (λ (v : Bool). cond (completes n) n.run.memory (restored (cond v [] t.pairs) t.memory)) q
    words-on e false q =
        let d = finished q (none-undone version u.undone q e) in
        words_left ∙ ap (λ (x : Bool). cond x n.run.memory (restored (pairs_before version t) t.memory)) d
        ∙ ap (λ (x : Bool). cond x n.run.memory t.memory) (sym d)

    -- the pairs give the start's memory, while nothing is undone
    restores-on : taken_back version u ≡ false → eqb version 1 ≡ false → restored u.pairs u.memory ≡ memory₀
    unfolding one_file
    restores-on e q =
        let d = finished q (none-undone version u.undone q e) in
        ap (λ (x : Bool). restored n.pairs (cond x n.run.memory t.memory)) d
        ∙ part_restores bottom (room_in journal₀) (pairs_before version t) t.machine t.memory here
        ∙ ap (λ (v : Bool). restored (cond v [] t.pairs) t.memory) q ∙ a.restores q

    pub turn : (not (eqb version 1) && not (eqb r.undone 0)) ≡ false → length memory' ≡ length memory → length journal' ≡ length journal → length map' ≡ length map
        → At memory₀ bottom journal₀ load files start version memory' journal' map' r (i + 1)
    unfolding one_file
    turn e lm lj lp =
        let taken = taken_is e in
        record {
          so_far = u;
          rest = rw taken at goes_on;
          machine = machine-is;
          words = words-on taken (eqb version 1) refl;
          counted = counted_is;
          places = places-are;
          number = ap (λ (n : ℕ). n + 1) a.number;
          undone = undone-is;
          ran = ran-is;
          low = subst (λ (x : ℕ). x < 2 ^ (i + 1)) (sym (ap (λ (x : Walk). x.undone) walked)) (small w.undone i a.low (kept_done kept));
          laid = omega (arith, at-is, a.laid, sizes-here);
          placed = placed-here.1;
          size = lm ∙ a.size;
          long = lj ∙ a.long;
          marks = lp ∙ a.marks;
          told = subst (λ (x : ℕ). Tells map' journal' n.pairs x) (ap length (sym a.words) ∙ sym lm) told-on;
          fits = omega (arith, follows.fits, lj);
          restores = restores-on taken;
          none = λ two. none-undone version u.undone two taken;
        }
