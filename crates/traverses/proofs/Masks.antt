-- Bit i of the mask marks undone file i.
use Rattle.std.specs.Prelude.{Ok}
use Prim.Native.Nat.{ℕ, zero, suc, ◌+◌, ◌-◌, ◌*◌, ◌/◌, ◌%◌, ◌^◌, ◌<◌}
use mathlib.Core.Path.{◌≡◌, refl, sym, ap, ◌∙◌}
use mathlib.Core.Bool.{Bool, true, false, not, cond}
use mathlib.Core.List.{List, [], ◌∷◌}
use native.Mathlib.Nat.{add-zero, zero-add, div-eq_of_lt, add-mul-div_right, pow-suc, one-mul, lt_of_lt_of_le}
use native.Mathlib.Numerals.{add-one}
use native.Mathlib.Omega.{arith}
use lib.Dec.{eqb}
use lib.ListN.{get_or}
use lib.Pow.{pow-add, pow_mono, pow_pos, high}
use Rattle.model.specs.Words.{field, bit}
use Rattle.model.specs.Journal.{room_in, completes}
use Rattle.traverses.specs.declared.TraverseEnding.TheVariants.{Marked}
use Rattle.traverses.specs.declared.TraverseResult.{TraverseResult}
use Rattle.traverses.specs.Files.{Part, parts, files_in}
use Rattle.traverses.specs.Traverse.{Progress, set_out, file_noted, one_file, traversed}
use Rattle.traverses.specs.Calls.{verdict_here, whole_traverse, traverse_returned}
use Rattle.traverses.specs.Theorems.{outcomes, MaskTells}
use Rattle.traverses.proofs.Reasons.{returned}
use Rattle.traverses.proofs.Undone.{carried-out, mask_of}

-- ---- one bit more on top

top_bit : (x s : ℕ) → x < 2 ^ s → bit (x + 2 ^ s) s ≡ true
unfolding bit field
top_bit x s h =
    let e : x + 2 ^ s ≡ 1 * 2 ^ s + x = omega (arith, one-mul (2 ^ s)) in
    ap (λ (n : ℕ). eqb (n / 2 ^ s % 2) 1) e ∙ ap (λ (n : ℕ). eqb (n % 2) 1) (high 1 s h)

no-bit : (x s : ℕ) → x < 2 ^ s → bit x s ≡ false
unfolding bit field
no-bit x s h = ap (λ (n : ℕ). eqb (n % 2) 1) (div-eq_of_lt h)

low_bit : (x d j : ℕ) → bit (x + 2 ^ (suc d + j)) j ≡ bit x j
unfolding bit field
low_bit x d j =
    let e : 2 ^ (suc d + j) ≡ 2 ^ d * 2 * 2 ^ j = pow-add 2 (suc d) j ∙ ap (λ (n : ℕ). n * 2 ^ j) (pow-suc 2 d) in
    ap (λ (n : ℕ). eqb ((x + n) / 2 ^ j % 2) 1) e
    ∙ ap (λ (n : ℕ). eqb (n % 2) 1) (add-mul-div_right x (2 ^ d * 2) (pow_pos j))
    ∙ ap (λ (n : ℕ). eqb n 1) (even (x / 2 ^ j) (2 ^ d))
  where
    even : (a b : ℕ) → (a + b * 2) % 2 ≡ a % 2
    even a b = omega arith

-- with the bit of a file that is done, or not
module _ (x s : ℕ) (h : x < 2 ^ s) where
  own : (done : Bool) → bit (cond done x (x + 2 ^ s)) s ≡ not done
  own true = no-bit x s h
  own false = top_bit x s h

  lower : (done : Bool) (j : ℕ) → j < s → bit (cond done x (x + 2 ^ s)) j ≡ bit x j
  lower true j l = refl
  lower false j l =
      let e : s ≡ suc (s - j - 1) + j = omega arith in
      ap (λ (n : ℕ). bit (x + 2 ^ n) j) e ∙ low_bit x (s - j - 1) j

  pub small : (done : Bool) → cond done x (x + 2 ^ s) < 2 ^ (s + 1)
  small true = rw add-one (omega (arith, pow-suc 2 s))
  small false = rw add-one (omega (arith, pow-suc 2 s))

-- ---- file by file

module _ (bottom room : ℕ) where
  module _ (t : Progress) (h : t.undone < 2 ^ t.files) (p : Part) where
    abbrev done : Bool
    done = completes (file_noted bottom 1 room t p)

    still-small : (one_file bottom 1 room t p).undone < 2 ^ (one_file bottom 1 room t p).files
    unfolding one_file
    still-small = small t.undone t.files h done

    own-bit : bit (one_file bottom 1 room t p).undone t.files ≡ not done
    unfolding one_file
    own-bit = own t.undone t.files h done

    lower-bits : (j : ℕ) → j < t.files → bit (one_file bottom 1 room t p).undone j ≡ bit t.undone j
    unfolding one_file
    lower-bits j l = lower t.undone t.files h done j l

  next-file : (t : Progress) (p : Part) → (one_file bottom 1 room t p).files ≡ t.files + 1
  unfolding one_file
  next-file t p = refl

  -- later files leave the bits of earlier ones
  stays : (ps : List Part) (t : Progress) → t.undone < 2 ^ t.files → (j : ℕ) → j < t.files → bit (traversed bottom 1 room ps t).undone j ≡ bit t.undone j
  unfolding traversed
  stays [] t h j l = refl
  stays (p ∷ ps) t h j l =
      stays ps (one_file bottom 1 room t p) (still-small t h p) j (omega (arith, next-file t p)) ∙ lower-bits t h p j l

  tells : (ps : List Part) (t : Progress) → t.undone < 2 ^ t.files → (i : ℕ)
      → bit (traversed bottom 1 room ps t).undone (t.files + i) ≡ not (get_or (outcomes bottom 1 room ps t) i true)
  unfolding traversed outcomes
  tells [] t h i = no-bit t.undone (t.files + i) (lt_of_lt_of_le h (pow_mono (omega arith)))
  tells (p ∷ ps) t h zero =
      let u = one_file bottom 1 room t p in
      ap (bit (traversed bottom 1 room ps u).undone) (add-zero t.files)
      ∙ stays ps u (still-small t h p) t.files (omega (arith, next-file t p)) ∙ own-bit t h p
  tells (p ∷ ps) t h (suc i) =
      let u = one_file bottom 1 room t p in
      let e : t.files + suc i ≡ u.files + i = omega (arith, next-file t p) in
      ap (bit (traversed bottom 1 room ps u).undone) e ∙ tells ps u (still-small t h p) i

pub mask-tells : MaskTells
unfolding traverse_returned
mask-tells memory bottom journal load files start memory' journal' r c mask e i =
    let t = whole_traverse memory bottom journal load files start 1 in
    let told = sym (ap (λ (x : TraverseResult). x.answer) c.result) ∙ e in
    let v = carried-out (verdict_here memory bottom journal load files start 1) 1 start t (Ok (Marked mask)) told refl in
    let q = returned memory bottom journal load files start 1 v c in
    let same : t.undone ≡ mask = ap mask_of (sym (ap (λ (x : TraverseResult). x.answer) q) ∙ e) in
    ap (λ (n : ℕ). bit n i) (sym same) ∙ ap (bit t.undone) (sym (zero-add i))
    ∙ tells bottom (room_in journal) (parts (files_in files) load) (set_out start memory journal) (omega arith) i
