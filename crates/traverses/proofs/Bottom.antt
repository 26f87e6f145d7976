-- CR 6: a traverse keeps the words below the bottom: none is laid there, and no program's store alters them; and where none is stored there, it
-- does what it does with the bottom at 0.
use Rattle.std.specs.Prelude.{Ok, Err}
use Prim.Native.Nat.{ℕ, ◌+◌, ◌≤◌}
use mathlib.Core.Path.{◌≡◌, refl, sym, ap, ◌∙◌}
use mathlib.Core.Bool.{Bool, true, false, cond, ◌||◌, and-eq-true_iff}
use mathlib.Core.List.{List, [], ◌∷◌}
use native.Mathlib.Omega.{arith}
use lib.Dec.{eqb, leb-zero}
use lib.ListN.{length, take, drop}
use lib.Seq.{take-set-le}
use borrow.Author.Tests.{leb-true, eqb-true}
use Rattle.model.specs.declared.Machine.{Machine}
use Rattle.model.specs.Bottom.{never_stores_below}
use Rattle.model.specs.Interpreter.{Run, advance, interpret}
use Rattle.model.specs.Journal.{Pair, Noted, room_in, run_one, run_noted, completes}
use Rattle.model.specs.Refusals.{left_by, Verdict}
use Rattle.model.proofs.Cases.{pick}
use Rattle.model.proofs.Journals.{by-room, run-keeps}
use Rattle.model.proofs.Bottom.{run-keeps-bottom, run-as-level}
use Rattle.model.proofs.Verdicts.{accepted}
use Rattle.interpreter.specs.Calls.{file_board}
use Rattle.traverses.specs.declared.File.{File}
use Rattle.traverses.specs.Files.{files_in, Part, parts, fits_memory, above_bottom, placed, all_placed}
use Rattle.traverses.specs.Traverse.{lay_one, lay_all, part_laid, part_noted, Progress, set_out, pairs_before, taken_back, file_noted, one_file, traversed}
use Rattle.traverses.specs.Calls.{traverse_verdict, traverse_result, verdict_here, whole_traverse, traverse_words}
use Rattle.traverses.specs.Theorems.{never_below, TraverseKeepsBottom, TraverseAsLevel}
use Rattle.traverses.proofs.Reasons.{bounded, has-rule, accepts, returned, left_in, noted_in}
use Rattle.traverses.proofs.Plain.{full-run, not_full}

module _ (bottom room : ℕ) where
  abbrev Kept : List ℕ → List ℕ → Type 0
  Kept former memory = take bottom memory ≡ take bottom former

  laid-keeps : (words : List ℕ) (k : Noted) (place : ℕ) → bottom ≤ place → Kept k.run.memory (lay_all room k place words).run.memory
  unfolding lay_all lay_one
  laid-keeps [] k place h = refl
  laid-keeps (w ∷ ws) k place h =
      laid-keeps ws (lay_one room k place w) (place + 1) (omega arith)
      ∙ by-room room (λ (x : Noted). Kept k.run.memory x.run.memory) k _ _
      (λ _. refl) (λ _ _. take-set-le bottom k.run.memory place w h) (λ _ _. refl)

  advance-keeps : (r : Run) → Kept r.memory (advance (file_board bottom) r).memory
  unfolding interpret
  advance-keeps r = run-keeps-bottom (file_board bottom) 1 r

  runs-keep : (n : ℕ) (k : Noted) → Kept k.run.memory (run_noted (file_board bottom) room n k).run.memory
  unfolding run_one
  runs-keep n k =
      let K : Noted → Type 0 = λ x. Kept k.run.memory x.run.memory in
      run-keeps (file_board bottom) room K
      (λ x h. by-room room K x _ _ (λ _. h) (λ _ _. advance-keeps x.run ∙ h) (λ _ _. h)) n k refl

  module _ (f : File) (load : List ℕ) (a : above_bottom bottom f ≡ true) where
    abbrev p : Part
    p = record { file = f; words = take f.size load }

    -- a file's words lie at or above the bottom, or there are none
    file-keeps : (k : Noted) → Kept k.run.memory (lay_all room k f.place (take f.size load)).run.memory
    unfolding lay_all
    file-keeps k = go (eqb f.size 0) refl
      where
        go : (t : Bool) → eqb f.size 0 ≡ t → Kept k.run.memory (lay_all room k f.place (take f.size load)).run.memory
        go true e = rw (eqb-true f.size 0 e)
        go false e = laid-keeps (take f.size load) k f.place (leb-true bottom f.place (rw e at a))

    part_keeps : (pairs : List Pair) (m : Machine) (memory : List ℕ) → Kept memory (part_noted bottom room pairs m memory p).run.memory
    unfolding part_noted part_laid
    part_keeps pairs m memory = runs-keep f.count (part_laid room pairs m memory p) ∙ file-keeps _

    one-keeps : (version : ℕ) (t : Progress) → Kept t.memory (one_file bottom version room t p).memory
    unfolding one_file
    one-keeps version t =
        pick (Kept t.memory) (completes (file_noted bottom version room t p)) (part_keeps (pairs_before version t) t.machine t.memory) refl

  all_keep : (version : ℕ) (fs : List File) (load memory : List ℕ) → all_placed fs memory bottom ≡ true → (t : Progress)
      → Kept t.memory (traversed bottom version room (parts fs load) t).memory
  unfolding traversed parts all_placed
  all_keep version [] load memory e t = refl
  all_keep version (f ∷ fs) load memory e t =
      let (x, y) = (and-eq-true_iff (placed memory bottom f) (all_placed fs memory bottom)).0 e in
      let one = one-keeps f load ((and-eq-true_iff (fits_memory memory f) (above_bottom bottom f)).0 x).1 version t in
      let u = one_file bottom version room t (record { file = f; words = take f.size load }) in
      pick (λ (z : Progress). Kept t.memory z.memory) (taken_back version u) one (all_keep version fs (drop f.size load) memory y u ∙ one)

pub traverse_keeps_bottom : TraverseKeepsBottom
unfolding traverse_words
traverse_keeps_bottom memory bottom journal load files start version memory' journal' r c =
    ap (take bottom) c.words ∙ go (verdict_here memory bottom journal load files start version) refl
  where
    t : Progress
    t = whole_traverse memory bottom journal load files start version

    go : (v : Verdict) → verdict_here memory bottom journal load files start version ≡ v
        → take bottom (left_by v (cond (taken_back version t) memory t.memory) memory) ≡ take bottom memory
    go (Err why) e = refl
    go (Ok u) e =
        pick (λ (m : List ℕ). take bottom m ≡ take bottom memory) (taken_back version t) refl
        (all_keep bottom (room_in journal) version (files_in files) load memory (bounded memory bottom load (files_in files) version e).placed
        (set_out start memory journal))

-- ---- as with the bottom at 0

module _ (bottom version room : ℕ) (t : Progress) (p : Part) where
  abbrev words : Noted
  words = part_laid room (pairs_before version t) t.machine t.memory p

  -- full after its words it runs nothing, whatever the bottom
  same_noted : cond words.full true (never_stores_below bottom (file_board bottom) p.file.count words.run) ≡ true
      → file_noted bottom version room t p ≡ file_noted 0 version room t p
  unfolding part_noted
  same_noted never = go words.full refl
    where
      go : (b : Bool) → words.full ≡ b
          → run_noted (file_board bottom) room p.file.count words ≡ run_noted (file_board 0) room p.file.count words
      go true e = full-run (file_board bottom) room p.file.count words e ∙ sym (full-run (file_board 0) room p.file.count words e)
      go false e =
          let q = not_full words e in
          ap (run_noted (file_board bottom) room p.file.count) q
          ∙ (run-as-level (file_board bottom) p.file.count words.run (rw e at never)).journal room words.pairs
          ∙ sym (ap (run_noted (file_board 0) room p.file.count) q)

  same-file : cond words.full true (never_stores_below bottom (file_board bottom) p.file.count words.run) ≡ true
      → one_file bottom version room t p ≡ one_file 0 version room t p
  unfolding one_file
  same-file never = rw (same_noted never)

module _ (bottom version room : ℕ) where
  same-files : (ps : List Part) (t : Progress) → never_below bottom version room ps t ≡ true
      → traversed bottom version room ps t ≡ traversed 0 version room ps t
  unfolding traversed never_below
  same-files [] t h = refl
  same-files (p ∷ ps) t h = go (taken_back version u) refl (λ n. same-files ps u n)
    where
      u : Progress
      u = one_file bottom version room t p

      k : Noted
      k = part_laid room (pairs_before version t) t.machine t.memory p

      both : (cond k.full true (never_stores_below bottom (file_board bottom) p.file.count k.run) ≡ true)
          × (cond (taken_back version u) true (never_below bottom version room ps u) ≡ true)
      both = (and-eq-true_iff _ _).0 h

      one : u ≡ one_file 0 version room t p
      one = same-file bottom version room t p both.0

      go : (b : Bool) → taken_back version u ≡ b
          → (never_below bottom version room ps u ≡ true → traversed bottom version room ps u ≡ traversed 0 version room ps u)
          → cond (taken_back version u) u (traversed bottom version room ps u)
          ≡ cond (taken_back version (one_file 0 version room t p)) (one_file 0 version room t p) (traversed 0 version room ps (one_file 0 version room t p))
      go true e rest = rw (sym one, e)
      go false e rest = rw (sym one, e) (rest (rw e at both.1))

level-placed : (fs : List File) (memory : List ℕ) (bottom : ℕ) → all_placed fs memory bottom ≡ true → all_placed fs memory 0 ≡ true
unfolding all_placed
level-placed [] memory bottom e = refl
level-placed (f ∷ fs) memory bottom e =
    let (x, y) = (and-eq-true_iff (placed memory bottom f) (all_placed fs memory bottom)).0 e in
    let within = ((and-eq-true_iff (fits_memory memory f) (above_bottom bottom f)).0 x).0 in
    rw (within, leb-zero f.place, or_true (eqb f.size 0), level-placed fs memory bottom y)
  where
    or_true : (b : Bool) → (b || true) ≡ true
    or_true true = refl
    or_true false = refl

pub traverse_as_level : TraverseAsLevel
traverse_as_level memory bottom journal load files start version never memory' journal' r c z memory'' journal'' r₂ c₂ =
    let fs = files_in files in
    let v = accepted (verdict_here memory bottom journal load files start version) (sym c.number ∙ z) in
    let b = bounded memory bottom load fs version v in
    let v₂ : traverse_verdict memory 0 load fs version ≡ Ok tt =
    accepts memory 0 load fs version
    (record {
      lent = b.lent;
      based = rw (leb-zero (length memory));
      size = b.size;
      number = b.number;
      placed = level-placed fs memory bottom b.placed;
      laid = b.laid;
    })
    (has-rule memory bottom load fs version v) in
    let same : whole_traverse memory bottom journal load files start version ≡ whole_traverse memory 0 journal load files start version =
    same-files bottom version (room_in journal) (parts fs load) (set_out start memory journal) never in (
      returned memory bottom journal load files start version v c ∙ ap (traverse_result (Ok tt) version start) same
          ∙ sym (returned memory 0 journal load files start version v₂ c₂),
      left_in memory bottom journal load files start version v c ∙ ap (λ (t : Progress). cond (taken_back version t) memory t.memory) same
          ∙ sym (left_in memory 0 journal load files start version v₂ c₂),
      noted_in memory bottom journal load files start version v c ∙ ap (λ (t : Progress). t.places) same
          ∙ sym (noted_in memory 0 journal load files start version v₂ c₂),
    )
