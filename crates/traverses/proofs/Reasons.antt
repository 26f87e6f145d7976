-- What a traverse that is carried out has passed, and that nothing else is asked of it.
use Rattle.std.specs.Prelude.{Ok}
use Prim.Native.Nat.{ℕ, ◌≤◌}
use mathlib.Core.Path.{◌≡◌, ap, ◌∙◌}
use mathlib.Core.Bool.{true, cond}
use mathlib.Core.List.{List}
use lib.Dec.{eqb, leb}
use lib.ListN.{length}
use borrow.Author.Tests.{leb-true, le-leb, eqb-true, eq-eqb}
use Rattle.model.specs.declared.Machine.{Machine}
use Rattle.model.specs.declared.Refusal.TheVariants.{WrongVersion, TooManyFiles, FileMisplaced, WordsMismatched}
use Rattle.model.specs.Refusals.{most_words, left_by, memory_fits, bottom_fits, file_verdict, Verdict}
use Rattle.model.proofs.Verdicts.{both, demanded, memory-bounds}
use Rattle.traverses.specs.declared.TraverseResult.{TraverseResult}
use Rattle.traverses.specs.declared.File.{File}
use Rattle.traverses.specs.Files.{files_in, sizes, all_placed}
use Rattle.traverses.specs.Traverse.{Progress, taken_back}
use Rattle.traverses.specs.Calls.{has_rule, most_files, files_fit, version_fits, traverse_verdict, traverse_result, whole_traverse, traverse_returned, traverse_words, traverse_places, Traverses}

pub record Bounds (memory : List ℕ) (bottom : ℕ) (load : List ℕ) (files : List File) : Type 0 where
  pub lent : memory_fits memory ≡ Ok tt
  pub based : bottom_fits memory bottom ≡ Ok tt
  pub size : length memory ≤ most_words
  pub number : length files ≤ most_files
  pub placed : all_placed files memory bottom ≡ true
  pub laid : sizes files ≡ length load

module _ (memory : List ℕ) (bottom : ℕ) (load : List ℕ) (files : List File) (version : ℕ) where
  pub bounded : traverse_verdict memory bottom load files version ≡ Ok tt → Bounds memory bottom load files
  unfolding traverse_verdict file_verdict
  bounded v =
      let (r, rest) = both (file_verdict memory bottom) _ v in
      let (m, b) = both (memory_fits memory) (bottom_fits memory bottom) r in
      let (c, o) = both _ _ (both (files_fit files memory bottom load) (version_fits version) rest).0 in
      let (i, s) = both _ _ o in
      record {
        lent = m;
        based = b;
        size = (memory-bounds memory m).1;
        number = leb-true _ _ (demanded (leb (length files) most_files) TooManyFiles c);
        placed = demanded (all_placed files memory bottom) FileMisplaced i;
        laid = eqb-true _ _ (demanded (eqb (sizes files) (length load)) WordsMismatched s);
      }

  pub has-rule : traverse_verdict memory bottom load files version ≡ Ok tt → has_rule version ≡ true
  unfolding traverse_verdict
  has-rule v =
      let (_, rest) = both (file_verdict memory bottom) _ v in
      demanded (has_rule version) WrongVersion (both (files_fit files memory bottom load) (version_fits version) rest).1

  pub accepts : Bounds memory bottom load files → has_rule version ≡ true → traverse_verdict memory bottom load files version ≡ Ok tt
  unfolding traverse_verdict file_verdict
  accepts b known = rw (b.lent, b.based, le-leb _ _ b.number, b.placed, eq-eqb _ _ b.laid, known)

-- what a traverse that is carried out returns, and leaves in the memory and in the journal
module _ (memory : List ℕ) (bottom : ℕ) (journal load files : List ℕ) (start : Machine) (version : ℕ) {memory' journal' : List ℕ} {r : TraverseResult}
    (v : traverse_verdict memory bottom load (files_in files) version ≡ Ok tt)
    (c : Traverses memory bottom journal load files start version memory' journal' r) where
  abbrev whole : Progress
  whole = whole_traverse memory bottom journal load files start version

  pub returned : r ≡ traverse_result (Ok tt) version start whole
  unfolding traverse_returned
  returned = c.result ∙ ap (λ (w : Verdict). traverse_result w version start whole) v

  pub left_in : memory' ≡ cond (taken_back version whole) memory whole.memory
  unfolding traverse_words
  left_in = c.words ∙ ap (λ (w : Verdict). left_by w (cond (taken_back version whole) memory whole.memory) memory) v

  pub noted_in : journal' ≡ whole.places
  unfolding traverse_places
  noted_in = c.places ∙ ap (λ (w : Verdict). left_by w whole.places journal) v
