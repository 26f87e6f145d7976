-- One file, from its words laid and from its run.
use Prim.Native.Nat.{ℕ, min}
use mathlib.Core.Path.{◌≡◌, refl, sym, ap, ap₂, ◌∙◌}
use mathlib.Core.Bool.{Bool, true, false, not, cond, ◌&&◌}
use mathlib.Core.List.{List, []}
use Rattle.model.specs.declared.Machine.{Machine}
use Rattle.model.specs.Interpreter.{goes_on, begin}
use Rattle.model.specs.Journal.{room_in}
use Rattle.model.proofs.Waits.{first_fits}
use Rattle.marks.specs.declared.Noting.{Noting}
use Rattle.engine.specs.declared.Ended.{Ended}
use Rattle.engine.specs.Clocks.{begins_at}
use Rattle.engine.specs.Keeping.{Kept, kept_at, keep_run}
use Rattle.engine.specs.Engine.{EngineEnds}
use Rattle.engine.proofs.Spending.{begins-there}
use Rattle.engine.proofs.Noting.{full-run}
use Rattle.journal.specs.Undo.{undone}
use Rattle.interpreter.specs.declared.FileEnding.{FileEnding}
use Rattle.interpreter.specs.Calls.{file_board}
use Rattle.traverses.specs.declared.File.{File}
use Rattle.traverses.specs.Files.{Part}
use Rattle.traverses.specs.Traverse.{entered}
use Rattle.traverse.specs.declared.file.FileEnd.{FileEnd}
use Rattle.traverse.specs.Steps.{laid_at, lay_kept, Lays, file_kept, end_of, kept_words, Ends, FileEnds}

module _ (memory : List ℕ) (bottom : ℕ) (journal map : List ℕ) (pairs : ℕ) (load : List ℕ) (f : File) (m : Machine) {memory' journal' map' : List ℕ} {n : Noting}
    (h : Lays memory journal map pairs load f.place memory' journal' map' n) where
  abbrev p : Part
  p = record { file = f; words = load }

  abbrev k : Kept
  k = file_kept memory bottom journal map pairs p m

  -- what a file comes to
  ends : (x : Kept) → k ≡ x → {r : FileEnd} → r ≡ end_of m x → {memory'' journal'' map'' : List ℕ} → memory'' ≡ kept_words x → journal'' ≡ x.places → map'' ≡ x.map
      → FileEnds memory bottom journal map pairs load f m memory'' journal'' map'' r
  ends x q a b c d = record { result = rw q a; words = rw q b; places = rw q c; marks = rw q d }

  -- its words do not all fit
  pub file-full : n.full ≡ true → {memory'' : List ℕ} → memory'' ≡ undone (min n.pairs (room_in journal')) journal' memory'
      → FileEnds memory bottom journal map pairs load f m memory'' journal' map' (record { ending = FileEnding.Full; machine = m; ran = 0; pairs = n.pairs })
  file-full e u =
      let x : Kept = laid_at (entered m p) memory' journal' map' n.pairs true in
      let laid : lay_kept (laid_at (entered m p) memory journal map pairs false) f.place load ≡ x =
      h (entered m p) ∙ ap (laid_at (entered m p) memory' journal' map' n.pairs) e in
      ends x (ap (keep_run (file_board bottom) f.count) laid ∙ full-run (file_board bottom) f.count x refl) refl u refl refl

  machine-by : (x g : Bool) (start last : Machine) → cond (not x && g) (cond x start last) m ≡ cond (not x && g) last m
  machine-by true g start last = refl
  machine-by false g start last = refl

  -- it ran
  pub file-ran : n.full ≡ false → {start : Machine} → start ≡ entered m p → {memory'' journal'' map'' : List ℕ} {e : Ended}
      → EngineEnds memory' (file_board bottom) (begins_at [] 0) journal' map' n.pairs start f.count memory'' journal'' map'' e
      → {memory''' : List ℕ} {r : FileEnd} → Ends memory'' journal'' m e memory''' r
      → FileEnds memory bottom journal map pairs load f m memory''' journal'' map'' r
  file-ran e {start} is g c =
      let x : Kept = keep_run (file_board bottom) f.count (kept_at (begin start memory' (begins_at [] 0)) journal' map' n.pairs) in
      let laid : lay_kept (laid_at (entered m p) memory journal map pairs false) f.place load ≡ kept_at (begin start memory' (begins_at [] 0)) journal' map' n.pairs =
      h (entered m p) ∙ ap (laid_at (entered m p) memory' journal' map' n.pairs) e
      ∙ ap₂ (λ (s : Machine) (i : ℕ). kept_at (begin s memory' i) journal' map' n.pairs) (sym is) (sym (begins-there [] 0 (first_fits []))) in
      ends x (ap (keep_run (file_board bottom) f.count) laid)
      (c.result ∙ rw (g.result, machine-by x.full (goes_on x.run.ending) start x.run.machine))
      (c.words ∙ rw (g.result, g.words, g.places)) g.places g.marks
