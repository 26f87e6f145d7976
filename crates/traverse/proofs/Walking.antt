-- One file more, from what the file left.
use Prim.Native.Nat.{ℕ, ◌+◌, ◌-◌, ◌^◌}
use mathlib.Core.Path.{◌≡◌, refl, ap, ap₂, ◌∙◌}
use mathlib.Core.Bool.{Bool, true, false, not, cond, ◌&&◌}
use mathlib.Core.List.{List}
use native.Mathlib.Omega.{arith}
use lib.ListN.{length, take, drop, length-drop}
use lib.Seq.{length-take-le}
use Rattle.model.specs.Interpreter.{goes_on}
use Rattle.engine.specs.Keeping.{Kept}
use Rattle.interpreter.specs.declared.FileEnding.{FileEnding}
use Rattle.traverses.specs.declared.File.{File}
use Rattle.traverses.specs.Files.{file_at, Part}
use Rattle.traverse.specs.declared.file.FileEnd.{FileEnd}
use Rattle.traverse.specs.declared.walk.Walk.{Walk}
use Rattle.traverse.specs.Steps.{is_finished, is_full, LaysFit, file_kept, end_of, kept_words, FileEnds, part_at, map_before, count_before, next_kept, NextFits, Goes}

-- the ending tells both
finished-told : (f g : Bool) → is_finished (cond f FileEnding.Full (cond g FileEnding.Finished FileEnding.Undone)) ≡ (not f && g)
finished-told true g = refl
finished-told false true = refl
finished-told false false = refl

full-told : (f g : Bool) → is_full (cond f FileEnding.Full (cond g FileEnding.Finished FileEnding.Undone)) ≡ f
full-told true g = refl
full-told false true = refl
full-told false false = refl

module _ (map load files : List ℕ) (i : ℕ) (w : Walk) (fits : NextFits map load files i w) (f : File) (e : f ≡ file_at files i) where
  abbrev load_part : List ℕ
  load_part = take (w.at + f.size - w.at) (drop w.at load)

  load_is : load_part ≡ take f.size (drop w.at load)
  load_is = let n : w.at + f.size - w.at ≡ f.size = omega arith in rw n

  load-length : length load_part ≡ f.size
  load-length =
      rw load_is (length-take-le f.size (drop w.at load) (omega (arith, fits.laid, length-drop w.at load, ap (λ (g : File). g.size) e)))

  pub file-fits : {map' : List ℕ} → length map' ≡ length map → LaysFit map' load_part f.place
  file-fits q =
      let x = ap (λ (g : File). g.size) e in
      let y = ap (λ (g : File). g.place) e in
      record { lies = omega (arith, load-length, fits.lies); some = omega (arith, fits.some, q) }

  same-part : ◌≡◌ {A = Part} (record { file = f; words = load_part }) (part_at files load i w.at)
  same-part = rw (load_is, e)

  pub goes : (memory : List ℕ) (bottom version : ℕ) (journal : List ℕ) {map₁ : List ℕ} {pairs₁ : ℕ} → map₁ ≡ map_before version (length memory) map → pairs₁ ≡ count_before version w.pairs
      → {memory' journal' map' : List ℕ} {r : FileEnd} → FileEnds memory bottom journal map₁ pairs₁ load_part f w.machine memory' journal' map' r
      → {u : ℕ} → u ≡ cond (is_finished r.ending) w.undone (w.undone + 2 ^ i) → {x : Bool} → x ≡ is_full r.ending
      → Goes memory bottom journal map load files version i w memory' journal' map'
      (record { machine = r.machine; pairs = r.pairs; undone = u; ran = r.ran; full = x; at = w.at + f.size })
  goes memory bottom version journal m p h marked told =
      let q : file_kept memory bottom journal _ _ (record { file = f; words = load_part }) w.machine ≡ next_kept memory bottom journal map load files version i w =
      ap₂ (λ (l : List ℕ) (n : ℕ). file_kept memory bottom journal l n (record { file = f; words = load_part }) w.machine) m p
      ∙ ap (λ (x : Part). file_kept memory bottom journal (map_before version (length memory) map) (count_before version w.pairs) x w.machine) same-part in
      let k = next_kept memory bottom journal map load files version i w in
      let result = h.result ∙ ap (end_of w.machine) q in
      record {
        result = rw (marked, told, result, finished-told k.full (goes_on k.run.ending), full-told k.full (goes_on k.run.ending), ap (λ (g : File). g.size) e);
        words = h.words ∙ ap kept_words q;
        places = h.places ∙ ap (λ (k : Kept). k.places) q;
        marks = h.marks ∙ ap (λ (k : Kept). k.map) q;
      }
