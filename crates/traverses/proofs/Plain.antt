-- A file whose journal is not full does what it did before CR 11; with room for a pair for each word and instruction no journal is full, and the
-- traverse answers, leaves and counts as before.
use Rattle.std.specs.Prelude.{Ok}
use Rattle.traverses.specs.declared.TraverseEnding.{TraverseEnding}
use Prim.Native.Nat.{ℕ, suc, ◌+◌, ◌≤◌}
use mathlib.Core.Path.{◌≡◌, refl, sym, ap, ap₂, ◌∙◌}
use mathlib.Core.Bool.{Bool, true, false, not, cond, ◌&&◌, true≢false}
use mathlib.Core.List.{List, [], ◌∷◌}
use native.Mathlib.Omega.{arith}
use lib.Dec.{eqb}
use lib.ListN.{length, take, drop, length-take, length-append}
use Rattle.model.specs.declared.Machine.{Machine}
use Rattle.model.specs.Words.{word_at, store_word}
use Rattle.model.specs.Board.{Board}
use Rattle.model.specs.Interpreter.{Run, begin, interpret}
use Rattle.model.specs.Journal.{Pair, noting, Noted, fresh, run_one, run_noted, room_in, journal_pairs}
use Rattle.model.proofs.Cases.{pick}
use Rattle.model.proofs.Runs.{pairs-le}
use Rattle.model.proofs.Journals.{by-room, run-keeps, full-within, full-stays, not-full-run, noting-length, noting-append, goes_on_lem, room-runs}
use Rattle.model.proofs.Verdicts.{accepted}
use Rattle.interpreter.specs.Calls.{file_board}
use Rattle.traverses.specs.declared.File.{File}
use Rattle.traverses.specs.declared.TraverseResult.{TraverseResult}
use Rattle.traverses.specs.Files.{Part, parts, wanted, files_in}
use Rattle.traverses.specs.Traverse.{with_memory, lay_one, lay_all, entered, part_laid, part_noted, Progress, set_out, taken_back, one_file, traversed}
use Rattle.traverses.specs.Calls.{traverse_answer, verdict_here, whole_traverse}
use Rattle.traverses.specs.Plain.{laid, laid_pairs, plain_start, plain_run, plain_pairs, Plain, plain_out, plain_file, plain_traversed, plain_answer, plain_kept}
use Rattle.traverses.specs.Theorems.{TraverseAsPlain}
use Rattle.traverses.proofs.Reasons.{returned, left_in}

-- ---- full, nothing is laid and nothing runs any more

pub full-run : (board : Board) (room n : ℕ) (k : Noted) → k.full ≡ true → run_noted board room n k ≡ k
full-run board room n k e =
    run-keeps board room (λ (x : Noted). x ≡ k) (λ x q. ap (run_one board room) q ∙ full-stays board room k e) n k refl

pub full-laid : (room : ℕ) (words : List ℕ) (k : Noted) (place : ℕ) → k.full ≡ true → lay_all room k place words ≡ k
unfolding lay_all lay_one
full-laid room [] k place e = refl
full-laid room (w ∷ ws) k place e = rw (full-within room k _ _ e) (full-laid room ws k (place + 1) e)

-- not full now, it was not full before
pub not-full-before : (board : Board) (room n : ℕ) (k : Noted) → (run_noted board room n k).full ≡ false → k.full ≡ false
not-full-before board room n k e = go k.full refl
  where
    go : (b : Bool) → k.full ≡ b → k.full ≡ false
    go false f = f
    go true f = absurd (true≢false (sym f ∙ sym (ap (λ (x : Noted). x.full) (full-run board room n k f)) ∙ e))

pub not_full : (k : Noted) → k.full ≡ false → k ≡ fresh k.run k.pairs
not_full k e = λ i. record { run = k.run; pairs = k.pairs; full = e i }

-- ---- not full, the file is the plain one

lays_plain : (room : ℕ) (words : List ℕ) (r : Run) (pairs : List Pair) (place : ℕ) → (lay_all room (fresh r pairs) place words).full ≡ false
    → (lay_all room (fresh r pairs) place words).run ≡ with_memory (laid r.memory place words) r
unfolding lay_all lay_one laid
lays_plain room [] r pairs place e = refl
lays_plain room (w ∷ ws) r pairs place e =
    by-room room
    (λ (x : Noted). (lay_all room x (place + 1) ws).full ≡ false
    → (lay_all room x (place + 1) ws).run ≡ with_memory (laid (store_word r.memory place w) (place + 1) ws) r)
    (fresh r pairs) _ _
    (λ f _. absurd (true≢false (sym f)))
    (λ _ _ g. lays_plain room ws _ _ (place + 1) g)
    (λ _ _ g. absurd (true≢false (sym (ap (λ (x : Noted). x.full) (full-laid room ws _ (place + 1) refl)) ∙ g)))
    e

pub part_plain : (bottom room : ℕ) (pairs : List Pair) (m : Machine) (memory : List ℕ) (p : Part) → (part_noted bottom room pairs m memory p).full ≡ false
    → (part_noted bottom room pairs m memory p).run ≡ plain_run bottom m memory p
unfolding part_noted part_laid plain_run
part_plain bottom room pairs m memory p e =
    let board = file_board bottom in
    let k = part_laid room pairs m memory p in
    let f = not-full-before board room p.file.count k e in
    let q = not_full k f in
    ap (λ (x : Noted). (run_noted board room p.file.count x).run) q
    ∙ not-full-run board room p.file.count k.run k.pairs (ap (λ (x : Noted). (run_noted board room p.file.count x).full) (sym q) ∙ e)
    ∙ ap (interpret board p.file.count) (lays_plain room p.words (begin (entered m p) memory 0) pairs p.file.place f)

-- ---- with room for all, one file

pub laid-length : (memory : List ℕ) (place : ℕ) (words : List ℕ) → length (laid_pairs memory place words) ≡ length words
unfolding laid_pairs
laid-length memory place [] = refl
laid-length memory place (w ∷ ws) = ap suc (laid-length (store_word memory place w) (place + 1) ws)

pub part_few : (bottom : ℕ) (m : Machine) (memory : List ℕ) (p : Part) → length (plain_pairs bottom m memory p) ≤ length p.words + p.file.count
unfolding plain_pairs
part_few bottom m memory p =
    rw length-append
    (omega (arith, laid-length memory p.file.place p.words, pairs-le (file_board bottom) p.file.count (plain_start m memory p)))

lays_all : (room : ℕ) (words : List ℕ) (r : Run) (pairs : List Pair) (place : ℕ) → length pairs + length words ≤ room
    → lay_all room (fresh r pairs) place words ≡ fresh (with_memory (laid r.memory place words) r) (noting pairs (laid_pairs r.memory place words))
unfolding lay_all lay_one laid laid_pairs noting
lays_all room [] r pairs place fits = refl
lays_all room (w ∷ ws) r pairs place fits =
    let s : List Pair = record { address = place; former = word_at r.memory place } ∷ [] in
    let next = with_memory (store_word r.memory place w) r in
    ap (λ (k : Noted). lay_all room k (place + 1) ws) (goes_on_lem room r next pairs s (omega arith))
    ∙ lays_all room ws next (noting pairs s) (place + 1) (omega (arith, noting-length s pairs))

pub part_runs : (bottom room : ℕ) (pairs : List Pair) (m : Machine) (memory : List ℕ) (p : Part)
    → length pairs + (length p.words + p.file.count) ≤ room
    → part_noted bottom room pairs m memory p ≡ fresh (plain_run bottom m memory p) (noting pairs (plain_pairs bottom m memory p))
unfolding part_noted part_laid plain_run plain_pairs
part_runs bottom room pairs m memory p fits =
    let board = file_board bottom in
    let start = plain_start m memory p in
    let first = laid_pairs memory p.file.place p.words in
    ap (run_noted board room p.file.count) (lays_all room p.words _ pairs p.file.place (omega arith))
    ∙ room-runs board room p.file.count start (noting pairs first)
    (omega (arith, noting-length first pairs, laid-length memory p.file.place p.words))
    ∙ ap (fresh (interpret board p.file.count start)) (sym (noting-append first (journal_pairs board p.file.count start) pairs))

-- ---- the files one after the other

record Alike (version : ℕ) (c : Progress) (t : Plain) : Type 0 where
  machine : c.machine ≡ t.machine
  memory : c.memory ≡ t.memory
  files : c.files ≡ t.files
  undone : c.undone ≡ t.undone
  ran : c.ran ≡ t.ran
  full : c.full ≡ false
  firsts : eqb version 1 ≡ false → c.pairs ≡ noting [] t.pairs

module _ (bottom version room : ℕ) where
  -- one file more
  next-alike : (c : Progress) (t : Plain) (p : Part) → Alike version c t → length c.pairs + (length p.words + p.file.count) ≤ room
      → Alike version (one_file bottom version room c p) (plain_file bottom t p)
      × (length (one_file bottom version room c p).pairs ≤ length c.pairs + (length p.words + p.file.count))
  unfolding one_file plain_file
  next-alike c t p a fits =
      let from : List Pair = cond (eqb version 1) [] c.pairs in
      let less : length from ≤ length c.pairs = pick (λ (ps : List Pair). length ps ≤ length c.pairs) (eqb version 1) (omega arith) (omega arith) in
      let e = part_runs bottom room from c.machine c.memory p (omega arith) in
      let few = part_few bottom c.machine c.memory p in (
        record {
          machine = rw (e, a.machine, a.memory);
          memory = rw (e, a.machine, a.memory);
          files = rw a.files;
          undone = rw (e, a.machine, a.memory, a.undone, a.files);
          ran = ap (λ (k : Noted). k.run.ran) e ∙ ap₂ (λ (m : Machine) (l : List ℕ). (plain_run bottom m l p).ran) a.machine a.memory;
          full = ap (λ (k : Noted). k.full) e;
          firsts = λ two.
              ap (λ (k : Noted). k.pairs) e
              ∙ rw (two, a.firsts two, a.machine, a.memory) (sym (noting-append t.pairs (plain_pairs bottom t.machine t.memory p) []));
        },
        omega (arith, ap (λ (k : Noted). length k.pairs) e, noting-length (plain_pairs bottom c.machine c.memory p) from),
      )

  follows : (files : List File) (load : List ℕ) (c : Progress) (t : Plain) → Alike version c t → length c.pairs + wanted files ≤ room
      → Alike version (traversed bottom version room (parts files load) c) (plain_traversed bottom version (parts files load) t)
  unfolding traversed plain_traversed parts wanted
  follows [] load c t a fits = a
  follows (f ∷ fs) load c t a fits =
      let p : Part = record { file = f; words = take f.size load } in
      let u = one_file bottom version room c p in
      let w = plain_file bottom t p in
      let (b, few) = next-alike c t p a (omega (arith, length-take f.size load)) in
      let same : taken_back version u ≡ (not (eqb version 1) && not (eqb w.undone 0)) = rw b.undone in
      rw same
      (go (eqb version 1) (eqb w.undone 0) b (follows fs (drop f.size load) u w b (omega (arith, length-take f.size load, few))))
    where
      go : {u x : Progress} {w y : Plain} (v k : Bool) → Alike version u w → Alike version x y
          → Alike version (cond (not v && not k) u x) (cond v y (cond k y w))
      go true k p q = q
      go false true p q = q
      go false false p q = p

-- ---- the call

module _ (version : ℕ) (c : Progress) (t : Plain) (a : Alike version c t) where
  same_answer : (x y : Bool) → eqb version 1 ≡ x → eqb t.undone 0 ≡ y → traverse_answer version c ≡ plain_answer version t
  same_answer true y e f = rw (e, a.undone)
  same_answer false true e f = rw (e, a.undone, f)
  same_answer false false e f = rw (e, a.undone, f, a.full, a.files)

  -- what is kept, of the machine or of the memory
  same_kept : {A : Type 0} (start x y : A) → x ≡ y → cond (taken_back version c) start x ≡ plain_kept version t start y
  same_kept start x y q = rw (a.undone, q) (go (eqb version 1) (eqb t.undone 0))
    where
      go : (v k : Bool) → cond (not v && not k) start y ≡ cond v y (cond k y start)
      go true k = refl
      go false true = refl
      go false false = refl

pub traverse_as_plain : TraverseAsPlain
unfolding noting
traverse_as_plain memory bottom journal load files start version room memory' journal' r c z =
    let fs = files_in files in
    let v = accepted (verdict_here memory bottom journal load files start version) (sym c.number ∙ z) in
    let w = whole_traverse memory bottom journal load files start version in
    let t = plain_traversed bottom version (parts fs load) (plain_out start memory) in
    let a : Alike version w t =
    follows bottom version (room_in journal) fs load (set_out start memory journal) (plain_out start memory)
    (record { machine = refl; memory = refl; files = refl; undone = refl; ran = refl; full = refl; firsts = λ _. refl }) (omega arith) in
    let q = returned memory bottom journal load files start version v c in
    record {
      answer = ap (λ (x : TraverseResult). x.answer) q ∙ ap (λ (x : TraverseEnding). Ok x) (same_answer version w t a (eqb version 1) (eqb t.undone 0) refl refl);
      machine = ap (λ (x : TraverseResult). x.machine) q ∙ same_kept version w t a start w.machine t.machine a.machine;
      words = left_in memory bottom journal load files start version v c ∙ same_kept version w t a memory w.memory t.memory a.memory;
      ran = ap (λ (x : TraverseResult). x.ran) q ∙ a.ran;
      firsts = λ two. ap (λ (x : TraverseResult). x.pairs) q ∙ ap length (a.firsts two);
    }
