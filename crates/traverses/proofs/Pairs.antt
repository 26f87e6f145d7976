-- The pairs of a file and of a traverse, taken back, give the memory before.
use Rattle.std.specs.Prelude.{Ok, Err}
use Prim.Native.Nat.{ℕ, ◌+◌, ◌^◌}
use mathlib.Core.Path.{◌≡◌, refl, sym, ap, ap₂, ◌∙◌}
use mathlib.Core.Bool.{Bool, true, false, cond}
use mathlib.Core.List.{List, [], ◌∷◌, ◌++◌}
use native.Mathlib.Omega.{arith}
use lib.Dec.{eqb}
use lib.ListN.{length, drop}
use lib.Pow.{pow_pos}
use borrow.Author.Tests.{ne_eqb}
use Rattle.model.specs.declared.Machine.{Machine}
use Rattle.model.specs.Words.{overlay}
use Rattle.model.specs.Journal.{Pair, Noted, completes, journal_words}
use Rattle.model.specs.Refusals.{left_by, file_verdict, Verdict}
use Rattle.model.proofs.Cases.{pick}
use Rattle.model.proofs.Journals.{by-room}
use Rattle.journal.specs.Undo.{undone, restored}
use Rattle.journal.proofs.Journals.{undone-restores, restored-again}
use Rattle.journal.proofs.Restoring.{noted-store, run-restores}
use Rattle.interpreter.specs.declared.FileResult.{FileResult}
use Rattle.interpreter.specs.Calls.{file_board, file_result, memory_end, whole_file, file_returned, file_words, file_places}
use Rattle.traverses.specs.declared.TraverseResult.{TraverseResult}
use Rattle.traverses.specs.Files.{Part, parts, files_in}
use Rattle.traverses.specs.Traverse.{lay_one, lay_all, part_laid, part_noted, Progress, set_out, taken_back, file_noted, one_file, traversed}
use Rattle.traverses.specs.Calls.{traverse_result, verdict_here, whole_traverse, traverse_returned, traverse_words, traverse_places}
use Rattle.traverses.specs.Theorems.{FileRestores, JournalRestores, LastRestores}
use Rattle.traverses.proofs.Noting.{lay_keeps}

-- ---- one file

-- words laid
pub laid-restores : (room : ℕ) (words : List ℕ) (k : Noted) (place : ℕ)
    → restored (lay_all room k place words).pairs (lay_all room k place words).run.memory ≡ restored k.pairs k.run.memory
unfolding lay_one
laid-restores room words k place =
    let R : Noted → Type 0 = λ x. restored x.pairs x.run.memory ≡ restored k.pairs k.run.memory in
    lay_keeps room R
    (λ x at word h. by-room room R x _ _ (λ _. h) (λ _ _. noted-store x.pairs x.run.memory at word ∙ h) (λ _ _. h))
    words k place refl

-- a file's pairs, after those that it starts with, give the memory that those give
pub part_restores : (bottom room : ℕ) (pairs : List Pair) (m : Machine) (memory : List ℕ) (p : Part)
    → restored (part_noted bottom room pairs m memory p).pairs (part_noted bottom room pairs m memory p).run.memory ≡ restored pairs memory
unfolding part_noted part_laid
part_restores bottom room pairs m memory p =
    run-restores (file_board bottom) room p.file.count (part_laid room pairs m memory p) ∙ laid-restores room p.words _ p.file.place

-- what pairs give, they give again
pub gives_again : (ps : List Pair) (after memory : List ℕ) → restored ps after ≡ memory → restored ps memory ≡ memory
gives_again ps after memory e = ap (restored ps) (sym e) ∙ restored-again ps after ∙ e

pub last-restores : LastRestores
unfolding one_file restored
last-restores bottom room t p =
    let k = file_noted bottom 1 room t p in
    let gone = part_restores bottom room [] t.machine t.memory p in
    pick (λ (x : List ℕ). restored k.pairs x ≡ t.memory) (completes k) gone (gives_again k.pairs _ _ gone)

-- ---- a file run

pub file-restores : FileRestores
unfolding file_returned file_words file_places undone restored
file-restores memory bottom journal start count memory' journal' r c =
    let k = whole_file memory bottom journal start count in
    let gone : restored k.pairs k.run.memory ≡ memory = run-restores (file_board bottom) _ count _ in
    ap (λ (x : FileResult). undone x.pairs journal' memory') c.result
    ∙ ap₂ (λ (j m : List ℕ). undone (file_returned memory bottom journal start count).pairs j m) c.places c.words
    ∙ by (file_verdict memory bottom) k (pick (λ (m : List ℕ). restored k.pairs m ≡ memory) (completes k) gone (gives_again k.pairs _ _ gone))
  where
    by : (v : Verdict) (k : Noted) → restored k.pairs (memory_end memory k) ≡ memory
        → undone (file_result v start k).pairs (left_by v (overlay (journal_words k.pairs) journal) journal) (left_by v (memory_end memory k) memory) ≡ memory
    by (Ok u) k e = undone-restores k.pairs _ _ ∙ e
    by (Err why) k e = refl

-- ---- a traverse

-- its pairs lie from place 0 on
pub record Leads (t : Progress) : Type 0 where
  pub rest : List ℕ
  pub same : t.places ≡ journal_words t.pairs ++ rest

pub traverse_leads : (bottom version room : ℕ) (ps : List Part) (t : Progress) → Leads t → Leads (traversed bottom version room ps t)
unfolding traversed one_file
traverse_leads bottom version room [] t h = h
traverse_leads bottom version room (p ∷ ps) t h =
    let u = one_file bottom version room t p in
    let one : Leads u = record { rest = drop (length (journal_words u.pairs)) t.places; same = refl } in
    pick Leads (taken_back version u) one (traverse_leads bottom version room ps u one)

module _ (bottom version room : ℕ) (two : eqb version 1 ≡ false) (memory : List ℕ) where
  -- from the memory that it leaves
  abbrev Gives : Progress → Type 0
  Gives t = restored t.pairs (cond (taken_back version t) memory t.memory) ≡ memory

  traverse_gives : (ps : List Part) (t : Progress) → t.undone ≡ 0 → restored t.pairs t.memory ≡ memory → Gives (traversed bottom version room ps t)
  unfolding traversed one_file
  traverse_gives [] t z h = rw (two, z) h
  traverse_gives (p ∷ ps) t z h = go (completes k) refl (λ n g. traverse_gives ps u n g)
    where
      k : Noted
      k = file_noted bottom version room t p

      u : Progress
      u = one_file bottom version room t p

      gone : restored k.pairs k.run.memory ≡ memory
      gone = part_restores bottom room _ t.machine t.memory p ∙ rw two h

      go : (b : Bool) → completes k ≡ b
          → (u.undone ≡ 0 → restored u.pairs u.memory ≡ memory → Gives (traversed bottom version room ps u))
          → Gives (cond (taken_back version u) u (traversed bottom version room ps u))
      go true d rest =
          let n : u.undone ≡ 0 = rw d z in
          let on : taken_back version u ≡ false = rw (n, two) in
          rw on (rest n (rw d gone))
      go false d rest =
          let n : eqb u.undone 0 ≡ false = rw d (ne_eqb (t.undone + 2 ^ t.files) 0 (λ q. omega (arith, q, pow_pos t.files))) in
          let back : taken_back version u ≡ true = rw (n, two) in
          rw (back, back) (gives_again k.pairs _ _ gone)

pub journal-restores : JournalRestores
unfolding traverse_returned traverse_words traverse_places undone restored journal_words
journal-restores memory bottom journal load files start version two memory' journal' r c =
    let t = whole_traverse memory bottom journal load files start version in
    let ps = parts (files_in files) load in
    ap (λ (x : TraverseResult). undone x.pairs journal' memory') c.result
    ∙ ap₂ (λ (j m : List ℕ). undone (traverse_returned memory bottom journal load files start version).pairs j m) c.places c.words
    ∙ by (verdict_here memory bottom journal load files start version) t
    (traverse_leads bottom version _ ps (set_out start memory journal) (record { rest = journal; same = refl }))
    (traverse_gives bottom version _ two memory ps (set_out start memory journal) refl refl)
  where
    by : (v : Verdict) (t : Progress) → Leads t → restored t.pairs (cond (taken_back version t) memory t.memory) ≡ memory
        → undone (traverse_result v version start t).pairs (left_by v t.places journal) (left_by v (cond (taken_back version t) memory t.memory) memory)
        ≡ memory
    by (Ok u) t l e =
        ap (λ (j : List ℕ). undone (length t.pairs) j (cond (taken_back version t) memory t.memory)) l.same
        ∙ undone-restores t.pairs l.rest _ ∙ e
    by (Err why) t l e = refl
