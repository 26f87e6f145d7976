-- The call: refused, taken back, carried out.
use Rattle.traverses.specs.declared.TraverseEnding.{TraverseEnding}
use Rattle.std.specs.Prelude.{Ok, Err}
use Prim.Native.Nat.{ℕ, ◌+◌, ◌-◌, ◌^◌, ◌≤◌, ◌<◌}
use mathlib.Core.Path.{◌≡◌, refl, sym, ap, ◌∙◌}
use mathlib.Core.Bool.{Bool, true, false, not, cond, ◌&&◌, and-eq-true_iff}
use mathlib.Core.List.{List, []}
use native.Mathlib.Omega.{arith}
use lib.Dec.{eqb}
use lib.ListN.{length}
use borrow.Author.Tests.{eqb-false, not-true}
use Rattle.model.specs.declared.Machine.{Machine}
use Rattle.model.specs.declared.Refusal.{Refusal}
use Rattle.model.specs.Journal.{Noted, completes}
use Rattle.model.specs.Refusals.{verdict_number, left_by, Verdict}
use Rattle.journal.specs.Undo.{restored}
use Rattle.traverses.specs.declared.TraverseEnding.TheVariants.{Marked, Finished}
use Rattle.traverses.specs.declared.TraverseResult.{TraverseResult}
use Rattle.traverses.specs.Files.{files_in, parts}
use Rattle.traverses.specs.Traverse.{Progress, pairs_before, taken_back, one_file, traversed}
use Rattle.traverses.specs.Calls.{traverse_verdict, stopped_by, traverse_answer, traverse_result, traverse_number, whole_traverse, traverse_returned, traverse_words, traverse_places, Traverses}
use Rattle.traverses.proofs.Reasons.{Bounds, bounded}
use Rattle.file_list.proofs.Lists.{none_left}
use Rattle.traverse.specs.declared.walk.Walk.{Walk}
use Rattle.traverse.specs.Steps.{Goes}
use Rattle.traverse.proofs.Turns.{At, t, u, n, goes_on, words_left, ran-is, full_is, counted_is, places-are, taken_is}

-- the answer of a progress that rule 2 has taken back, at its last file
answer-two : (version : ℕ) (p : Progress) (i : ℕ) → eqb version 1 ≡ false → eqb p.undone 0 ≡ false → p.files - 1 ≡ i
    → stopped_by p.full i ≡ traverse_answer version p
answer-two version p i x y z = rw (x, y, z)

module _ (memory : List ℕ) (bottom : ℕ) (journal load files : List ℕ) (start : Machine) (version : ℕ) where
  abbrev whole : Progress
  whole = whole_traverse memory bottom journal load files start version

  as-traverse : (v : Verdict) → v ≡ traverse_verdict memory bottom load (files_in files) version → {r : TraverseResult} {memory' journal' : List ℕ}
      → r ≡ traverse_result v version start whole
      → memory' ≡ left_by v (cond (taken_back version whole) memory whole.memory) memory
      → journal' ≡ left_by v whole.places journal
      → traverse_number (traverse_result v version start whole).answer ≡ verdict_number v
      → Traverses memory bottom journal load files start version memory' journal' r
  unfolding traverse_returned traverse_words traverse_places
  as-traverse v e p q j n =
      record {
        result = p ∙ ap (λ (v : Verdict). traverse_result v version start whole) e;
        words = q ∙ ap (λ (v : Verdict). left_by v (cond (taken_back version whole) memory whole.memory) memory) e;
        places = j ∙ ap (λ (v : Verdict). left_by v whole.places journal) e;
        number = ap (λ (r : TraverseResult). traverse_number r.answer) p ∙ n ∙ ap verdict_number e;
      }

pub refused : {memory : List ℕ} {bottom : ℕ} {journal load files : List ℕ} {start : Machine} {version : ℕ} {v : Verdict}
    → v ≡ traverse_verdict memory bottom load (files_in files) version → {why : Refusal} → v ≡ Err why
    → Traverses memory bottom journal load files start version memory journal (record { answer = Err why; machine = start; ran = 0; pairs = 0 })
refused {memory} {bottom} {journal} {load} {files} {start} {version} e {why} p =
    as-traverse memory bottom journal load files start version (Err why) (sym p ∙ e) refl refl refl refl

module _ (memory : List ℕ) (bottom : ℕ) (journal load files : List ℕ) (start : Machine) (version : ℕ) (v : traverse_verdict memory bottom load (files_in files) version ≡ Ok tt) where
  abbrev all : Progress
  all = whole_traverse memory bottom journal load files start version

  carried : {r : TraverseResult} {memory' journal' : List ℕ}
      → r ≡ traverse_result (Ok tt) version start all → memory' ≡ cond (taken_back version all) memory all.memory
      → journal' ≡ all.places → Traverses memory bottom journal load files start version memory' journal' r
  carried p q j =
      as-traverse memory bottom journal load files start version (Ok tt) (sym v) p q j refl

  -- ---- after the last file

  module _ {memory' journal' map : List ℕ} {w : Walk} {i : ℕ} (a : At memory bottom journal load files start version memory' journal' map w i) (past : length (files_in files) ≤ i) where
    is_all : a.so_far ≡ all
    unfolding traversed parts
    is_all = rw (none_left (files_in files) i past) at a.rest

    -- nothing was taken back
    stands : (x : Bool) → eqb version 1 ≡ x → (taken_back version all ≡ false) × (cond (eqb version 1) (Marked all.undone) Finished ≡ traverse_answer version all)
    stands true e = (rw e, rw e)
    stands false e =
        let z : all.undone ≡ 0 = ap (λ (p : Progress). p.undone) (sym is_all) ∙ a.none e in
        (rw (e, z), rw (e, z))

    pub all-run : {answer : TraverseEnding} → answer ≡ cond (eqb version 1) (Marked w.undone) Finished
        → Traverses memory bottom journal load files start version memory' journal' (record { answer = Ok answer; machine = w.machine; ran = w.ran; pairs = w.pairs })
    all-run {answer} e =
        let (s, n) = stands (eqb version 1) refl in
        let answered : answer ≡ traverse_answer version all =
        e ∙ ap (λ (m : ℕ). cond (eqb version 1) (Marked m) Finished) (a.undone ∙ ap (λ (p : Progress). p.undone) is_all) ∙ n in
        carried
        (rw s
        (λ k.
        record {
          answer = Ok (answered k);
          machine = (a.machine ∙ ap (λ (p : Progress). p.machine) is_all) k;
          ran = (a.ran ∙ ap (λ (p : Progress). p.ran) is_all) k;
          pairs = (a.counted ∙ ap (λ (p : Progress). length p.pairs) is_all) k;
        }))
        (rw s (a.words ∙ ap (λ (p : Progress). p.memory) is_all))
        (a.places ∙ ap (λ (p : Progress). p.places) is_all)

  -- ---- after a file that takes the traverse back

  module _ {m j map : List ℕ} {w : Walk} {i : ℕ} (a : At memory bottom journal load files start version m j map w i) (less : i < length (files_in files))
      {memory' journal' map' : List ℕ} {r : Walk} (h : Goes m bottom j map load files version i w memory' journal' map' r)
      (e : (not (eqb version 1) && not (eqb r.undone 0)) ≡ true) where
    abbrev b : Bounds memory bottom load (files_in files)
    b = bounded memory bottom load (files_in files) version v

    abbrev before : Progress
    before = t b a less h

    abbrev after : Progress
    after = u b a less h

    abbrev noted : Noted
    noted = n b a less h

    is_last : after ≡ all
    is_last = rw (taken_is b a less h e) at (goes_on b a less h)

    two : (eqb version 1 ≡ false) × (eqb after.undone 0 ≡ false)
    two =
        let (x, y) = (and-eq-true_iff _ _).0 (taken_is b a less h e) in
        (not-true _ x, not-true _ y)

    -- the file did not finish
    undone-now : (done : Bool) → completes noted ≡ done → completes noted ≡ false
    unfolding one_file
    undone-now true d = absurd (eqb-false after.undone 0 two.1 (ap (λ (x : Bool). cond x before.undone (before.undone + 2 ^ before.files)) d ∙ a.none two.0))
    undone-now false d = d

    -- so all that the one journal holds was taken back
    restores : memory' ≡ memory
    restores =
        words_left b a less h
        ∙ ap (λ (x : Bool). cond x noted.run.memory (restored (pairs_before version before) before.memory)) (undone-now (completes noted) refl)
        ∙ ap (λ (x : Bool). restored (cond x [] before.pairs) before.memory) two.0 ∙ a.restores two.0

    pub taken : {answer : TraverseEnding} → answer ≡ stopped_by r.full i
        → Traverses memory bottom journal load files start version memory' journal' (record { answer = Ok answer; machine = start; ran = r.ran; pairs = r.pairs })
    unfolding one_file
    taken {answer} q =
        let s : taken_back version all ≡ true = ap (taken_back version) (sym is_last) ∙ taken_is b a less h e in
        let n : before.files + 1 - 1 ≡ i = omega (arith, a.number) in
        let answered : answer ≡ traverse_answer version after =
        q ∙ ap (λ (x : Bool). stopped_by x i) (full_is b a less h) ∙ answer-two version after i two.0 two.1 n in
        carried
        (rw s
        (λ k.
        record {
          answer = Ok ((answered ∙ ap (traverse_answer version) is_last) k);
          machine = start;
          ran = (ran-is b a less h ∙ ap (λ (p : Progress). p.ran) is_last) k;
          pairs = (counted_is b a less h ∙ ap (λ (p : Progress). length p.pairs) is_last) k;
        }))
        (rw s restores)
        (places-are b a less h ∙ ap (λ (p : Progress). p.places) is_last)
