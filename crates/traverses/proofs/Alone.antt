-- Rule 1: the files that finish, run alone, are carried out and leave the same machine and memory.
use Rattle.std.specs.Prelude.{Ok}
use Prim.Native.Nat.{ℕ, ◌*◌, ◌/◌, ◌≤◌}
use mathlib.Core.Path.{◌≡◌, refl, sym, ap, ap₂, ◌∙◌}
use mathlib.Core.Bool.{Bool, true, false, cond, and-eq-true_iff}
use mathlib.Core.List.{List, [], ◌∷◌}
use native.Mathlib.Omega.{arith}
use lib.ListN.{length, take, drop, length-append, length-drop}
use lib.Seq.{length-take-le, take_at, drop_at}
use Rattle.model.specs.declared.Machine.{Machine}
use Rattle.model.specs.Journal.{room_in, completes}
use Rattle.model.proofs.Cases.{pick}
use Rattle.model.proofs.Verdicts.{accepted}
use Rattle.traverses.specs.declared.TraverseResult.{TraverseResult}
use Rattle.traverses.specs.declared.TraverseEnding.TheVariants.{Marked}
use Rattle.traverses.specs.declared.File.{File}
use Rattle.traverses.specs.Files.{files_from, files_in, Part, parts, sizes, placed, all_placed}
use Rattle.traverses.specs.Traverse.{part_noted, Progress, set_out, file_noted, one_file, traversed}
use Rattle.traverses.specs.Calls.{traverse_verdict, verdict_here, whole_traverse}
use Rattle.traverses.specs.Theorems.{finishing, flat, loads, FinishingAlone}
use Rattle.traverses.proofs.Reasons.{bounded, accepts, returned, left_in}

-- ---- what they leave

record SameEnd (whole alone : Progress) : Type 0 where
  machine : alone.machine ≡ whole.machine
  memory : alone.memory ≡ whole.memory
  none : alone.undone ≡ 0

module _ (bottom room : ℕ) where
  -- from two places with one machine and one memory
  alone : (ps : List Part) (t s : Progress) → t.machine ≡ s.machine → t.memory ≡ s.memory → s.undone ≡ 0
      → SameEnd (traversed bottom 1 room ps t) (traversed bottom 1 room (finishing bottom 1 room ps t) s)
  unfolding traversed finishing one_file
  alone [] t s p q z = record { machine = sym p; memory = sym q; none = z }
  alone (f ∷ fs) t s p q z = go (completes (file_noted bottom 1 room t f)) refl (λ u v. alone fs u v)
    where
      u : Progress
      u = one_file bottom 1 room t f

      v : Progress
      v = one_file bottom 1 room s f

      same : file_noted bottom 1 room s f ≡ file_noted bottom 1 room t f
      same = ap₂ (λ (m : Machine) (w : List ℕ). part_noted bottom room [] m w f) (sym p) (sym q)

      go : (b : Bool) → completes (file_noted bottom 1 room t f) ≡ b
          → ((u v : Progress) → u.machine ≡ v.machine → u.memory ≡ v.memory → v.undone ≡ 0
          → SameEnd (traversed bottom 1 room fs u) (traversed bottom 1 room (finishing bottom 1 room fs u) v))
          → SameEnd (traversed bottom 1 room fs u)
          (traversed bottom 1 room (cond b (f ∷ finishing bottom 1 room fs u) (finishing bottom 1 room fs u)) s)
      go true e rest = rest u v (rw (p, q)) (rw (p, q)) (rw (same, e) z)
      go false e rest = rest u s (rw e p) (rw e q) z

-- ---- that they are carried out: what is lent for them

unfoldable files_of : List Part → List File
files_of [] = []
files_of (p ∷ ps) = p.file ∷ files_of ps

flat-length : (ps : List Part) → length (flat ps) ≡ length ps * 4
unfolding flat
flat-length [] = refl
flat-length (p ∷ ps) = omega (arith, flat-length ps)

flat-files : (ps : List Part) → files_from (length ps) (flat ps) ≡ files_of ps
unfolding files_from flat files_of
flat-files [] = refl
flat-files (p ∷ ps) = ap (λ (fs : List File). p.file ∷ fs) (flat-files ps)

files-are : (ps : List Part) → files_in (flat ps) ≡ files_of ps
unfolding files_in
files-are ps =
    let e : length (flat ps) / 4 ≡ length ps = omega (arith, flat-length ps) in
    ap (λ (n : ℕ). files_from n (flat ps)) e ∙ flat-files ps

-- some of the files, with all their words
record Some (fs : List File) (memory : List ℕ) (bottom : ℕ) (ps : List Part) : Type 0 where
  same : parts (files_of ps) (loads ps) ≡ ps
  number : length (files_of ps) ≤ length fs
  placed : all_placed fs memory bottom ≡ true → all_placed (files_of ps) memory bottom ≡ true
  laid : sizes (files_of ps) ≡ length (loads ps)

module _ (memory : List ℕ) (bottom : ℕ) where
  none_of : Some [] memory bottom []
  unfolding files_of loads parts sizes all_placed
  none_of = record { same = refl; number = omega arith; placed = λ e. e; laid = refl }

  module _ (f : File) (fs : List File) (words : List ℕ) (l : length words ≡ f.size) (ps : List Part) (rest : Some fs memory bottom ps) where
    abbrev p : Part
    p = record { file = f; words = words }

    with_it : Some (f ∷ fs) memory bottom (p ∷ ps)
    unfolding files_of loads parts sizes all_placed
    with_it =
        record {
          same = rw (take_at words (loads ps) f.size l, drop_at words (loads ps) f.size l, rest.same);
          number = omega (arith, rest.number);
          placed = λ e.
              let (x, y) = (and-eq-true_iff (placed memory bottom f) (all_placed fs memory bottom)).0 e in
              rw (x, rest.placed y);
          laid = omega (arith, l, rest.laid, length-append words (loads ps));
        }

    without_it : Some (f ∷ fs) memory bottom ps
    unfolding all_placed
    without_it =
        record {
          same = rest.same;
          number = omega (arith, rest.number);
          placed = λ e. rest.placed ((and-eq-true_iff (placed memory bottom f) _).0 e).1;
          laid = rest.laid;
        }

  some_of : (room : ℕ) (fs : List File) (load : List ℕ) → sizes fs ≡ length load → (t : Progress)
      → Some fs memory bottom (finishing bottom 1 room (parts fs load) t)
  unfolding finishing parts sizes
  some_of room [] load l t = none_of
  some_of room (f ∷ fs) load l t =
      let words = take f.size load in
      let here : Part = record { file = f; words = words } in
      let left = drop f.size load in
      let long : length words ≡ f.size = length-take-le f.size load (omega arith) in
      let u = one_file bottom 1 room t here in
      let rest = some_of room fs left (omega (arith, length-drop f.size load)) u in
      let ps = finishing bottom 1 room (parts fs left) u in
      pick (Some (f ∷ fs) memory bottom) (completes (file_noted bottom 1 room t here))
      (with_it f fs words long ps rest) (without_it f fs words long ps rest)

-- ---- the calls

module _ (memory : List ℕ) (bottom : ℕ) (journal load files : List ℕ) (start : Machine) (v : traverse_verdict memory bottom load (files_in files) 1 ≡ Ok tt)
    (other : List ℕ) (long : room_in other ≡ room_in journal) where
  abbrev room : ℕ
  room = room_in journal

  abbrev done : List Part
  done = finishing bottom 1 room (parts (files_in files) load) (set_out start memory journal)

  some : Some (files_in files) memory bottom done
  some = some_of memory bottom room (files_in files) load (bounded memory bottom load (files_in files) 1 v).laid (set_out start memory journal)

  carried : traverse_verdict memory bottom (loads done) (files_in (flat done)) 1 ≡ Ok tt
  carried =
      let b = bounded memory bottom load (files_in files) 1 v in
      rw (files-are done)
      (accepts memory bottom (loads done) (files_of done) 1
      (record {
        lent = b.lent;
        based = b.based;
        size = b.size;
        number = omega (arith, some.number, b.number);
        placed = some.placed b.placed;
        laid = some.laid;
      })
      refl)

  same_end : SameEnd (whole_traverse memory bottom journal load files start 1) (whole_traverse memory bottom other (loads done) (flat done) start 1)
  same_end =
      rw (files-are done, some.same, long)
      (alone bottom room (parts (files_in files) load) (set_out start memory journal) (set_out start memory other) refl refl refl)

pub finishing-alone : FinishingAlone
finishing-alone memory bottom journal load files start memory' journal' r c taken other long memory'' journal'' r₂ c₂ =
    let v = accepted (verdict_here memory bottom journal load files start 1) (sym c.number ∙ taken) in
    let d = done memory bottom journal load files start v other long in
    let w = carried memory bottom journal load files start v other long in
    let e = same_end memory bottom journal load files start v other long in
    let first = returned memory bottom journal load files start 1 v c in
    let second = returned memory bottom other (loads d) (flat d) start 1 w c₂ in
    record {
      none = ap (λ (x : TraverseResult). x.answer) second ∙ ap (λ (n : ℕ). Ok (Marked n)) e.none;
      machine = ap (λ (x : TraverseResult). x.machine) second ∙ e.machine ∙ sym (ap (λ (x : TraverseResult). x.machine) first);
      memory = left_in memory bottom other (loads d) (flat d) start 1 w c₂ ∙ e.memory ∙ sym (left_in memory bottom journal load files start 1 v c);
    }
