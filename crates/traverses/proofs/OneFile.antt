-- A file run is a traverse of one file.
use Rattle.model.specs.declared.Refusal.{Refusal}
use Rattle.interpreter.specs.declared.FileEnding.{FileEnding}
use Rattle.std.specs.Prelude.{Ok, Err, Result}
use Prim.Native.Nat.{ℕ}
use mathlib.Core.Path.{◌≡◌, refl, sym, ap, ◌∙◌}
use mathlib.Core.Bool.{Bool, true, false, cond}
use mathlib.Core.List.{List, []}
use native.Mathlib.Omega.{arith}
use lib.Dec.{eqb}
use lib.ListN.{length}
use lib.Seq.{set-get_or}
use borrow.Author.Tests.{le-leb}
use Rattle.model.specs.declared.Machine.{Machine}
use Rattle.model.specs.Words.{overlay}
use Rattle.model.specs.Interpreter.{goes_on}
use Rattle.model.specs.Journal.{Pair, Noted, completes, journal_words}
use Rattle.model.specs.Refusals.{left_by, file_verdict, Verdict}
use Rattle.model.proofs.Verdicts.{then_accepted}
use Rattle.interpreter.specs.Calls.{file_result, memory_end, file_number, whole_file, file_returned, file_words, file_places}
use Rattle.traverses.specs.Files.{files_from, files_in, parts, sizes, all_placed}
use Rattle.traverses.specs.Traverse.{lay_all, part_laid, part_noted, Progress, taken_back, one_file, traversed}
use Rattle.traverses.specs.Calls.{has_rule, traverse_verdict, traverse_result, traverse_number, verdict_here, whole_traverse, traverse_returned, traverse_words, traverse_places}
use Rattle.traverses.specs.Theorems.{lone, as_answer, as_traverse, OneFileTraverse}

-- a traverse of one file that came to this
abbrev ended : Machine → (memory journal : List ℕ) → Noted → Progress
ended start memory journal k =
    record {
      machine = cond (completes k) k.run.machine start;
      memory = cond (completes k) k.run.memory memory;
      pairs = k.pairs;
      places = overlay (journal_words k.pairs) journal;
      files = 1;
      undone = cond (completes k) 0 1;
      ran = k.run.ran;
      full = k.full;
    }

-- it answers and leaves what the file run does
module _ (version : ℕ) (start : Machine) (memory journal : List ℕ) (k : Noted) where
  abbrev Same : Verdict → Type 0
  Same v =
      let t = ended start memory journal k in
      (traverse_result v version start t ≡ as_traverse version (file_result v start k))
      × (left_by v (cond (taken_back version t) memory t.memory) memory ≡ left_by v (memory_end memory k) memory)

  same_end : (full done one : Bool) → k.full ≡ full → goes_on k.run.ending ≡ done → eqb version 1 ≡ one → Same (Ok tt)
  same_end true done true e f g = (rw (e, g), rw (e, g))
  same_end true done false e f g = (rw (e, g), rw (e, g))
  same_end false true true e f g = (rw (e, f, g), rw (e, f, g))
  same_end false true false e f g = (rw (e, f, g), rw (e, f, g))
  same_end false false true e f g = (rw (e, f, g), rw (e, f, g))
  same_end false false false e f g = (rw (e, f, g), rw (e, f, g))

  same_by : (v : Verdict) → Same v
  same_by (Ok u) = same_end k.full (goes_on k.run.ending) (eqb version 1) refl refl refl
  same_by (Err why) = (refl, refl)

either : {A : Type 0} (b : Bool) (x : A) → cond b x x ≡ x
either true x = refl
either false x = refl

module _ (memory : List ℕ) (bottom : ℕ) (journal : List ℕ) (start : Machine) (count version : ℕ) (known : has_rule version ≡ true) where
  same-verdict : verdict_here memory bottom journal [] (lone start count) start version ≡ file_verdict memory bottom
  unfolding traverse_verdict files_in files_from sizes all_placed
  same-verdict = rw (le-leb 0 (length memory) (omega arith), known) (then_accepted (file_verdict memory bottom))

  same_whole : whole_traverse memory bottom journal [] (lone start count) start version ≡ ended start memory journal (whole_file memory bottom journal start count)
  unfolding files_in files_from parts traversed one_file part_noted part_laid lay_all
  same_whole =
      let t = ended start memory journal (whole_file memory bottom journal start count) in
      rw (set-get_or start.regs 0 0, either {A = List Pair} (eqb version 1) []) (either (taken_back version t) t)

same_number : (version : ℕ) (a : Result FileEnding Refusal) → traverse_number (as_answer version a) ≡ file_number a
same_number version (Ok FileEnding.Finished) = refl
same_number version (Ok FileEnding.Undone) = refl
same_number version (Ok FileEnding.Full) = refl
same_number version (Err why) = refl

pub one-file-traverse : OneFileTraverse
unfolding traverse_returned traverse_words traverse_places file_returned file_words file_places
one-file-traverse memory bottom journal start count version known memory' journal' r c =
    let v = same-verdict memory bottom journal start count version known in
    let w = same_whole memory bottom journal start count version known in
    let (a, m) = same_by version start memory journal (whole_file memory bottom journal start count) (file_verdict memory bottom) in
    record {
      result = rw (v, w) (ap (as_traverse version) c.result ∙ sym a);
      words = rw (v, w) (c.words ∙ sym m);
      places = rw (v, w) c.places;
      number = rw v (same_number version r.answer ∙ c.number);
    }
