-- The files of a flat list, one by one; the sum over the files from one on; the test of each.
use Prim.Native.Nat.{ℕ, zero, suc, ◌+◌, ◌/◌, ◌≤◌, ◌<◌}
use mathlib.Core.Path.{◌≡◌, refl, sym, ap, ◌∙◌}
use mathlib.Core.Bool.{Bool, ◌&&◌}
use mathlib.Core.List.{List, [], ◌∷◌, map}
use native.Mathlib.Numerals.{add-one}
use native.Mathlib.Omega.{arith}
use lib.ListN.{length, get_or, take, drop, drop_of_length-le}
use lib.Seq.{drop-cons}
use Rattle.std.proofs.Math.ListN.{get_or-map}
use Rattle.std.proofs.lemmas.List.{get_or-take}
use Rattle.std.specs.Simd.{first_chunks}
use Rattle.std.specs.List.{list_all, range_with_len}
use Rattle.std.proofs.lemmas.List.Folds.{list_all-map}
use Rattle.std.proofs.lemmas.List.FromFn.{fill_by_all}
use Rattle.traverses.specs.declared.File.{File}
use Rattle.traverses.specs.Files.{file_in, files_from, files_in, file_at, sizes, placed, all_placed}

-- ---- one by one

from_length : (n : ℕ) (list : List ℕ) → length (files_from n list) ≡ n
unfolding files_from
from_length zero list = refl
from_length (suc n) list = ap suc (from_length n (drop 4 list))

pub files-length : (list : List ℕ) → length (files_in list) ≡ length list / 4
unfolding files_in
files-length list = from_length (length list / 4) list

four : (list : List ℕ) → file_in list ≡ file_in (take 4 list)
four list = rw (get_or-take 4 list 0 0 (omega arith), get_or-take 4 list 1 0 (omega arith), get_or-take 4 list 2 0 (omega arith), get_or-take 4 list 3 0 (omega arith))

from_chunks : (n : ℕ) (list : List ℕ) → files_from n list ≡ map file_in (first_chunks 4 n list)
unfolding files_from
from_chunks zero list = refl
from_chunks (suc n) list = ap (λ (f : File). f ∷ files_from n (drop 4 list)) (four list) ∙ ap (λ (fs : List File). file_in (take 4 list) ∷ fs) (from_chunks n (drop 4 list))

pub there : (list : List ℕ) (i : ℕ) → file_in (get_or (first_chunks 4 (length list / 4) list) i (0 ∷ 0 ∷ 0 ∷ 0 ∷ [])) ≡ file_at list i
unfolding files_in
there list i =
    let n = length list / 4 in
    sym (ap (λ (fs : List File). get_or fs i (file_in [])) (from_chunks n list) ∙ get_or-map file_in (first_chunks 4 n list) i (0 ∷ 0 ∷ 0 ∷ 0 ∷ []))

-- ---- the files from one on

module _ (fs : List File) (i : ℕ) {f : File} (e : f ≡ get_or fs i (file_in [])) (h : i < length fs) where
  pub one_more : drop i fs ≡ f ∷ drop (i + 1) fs
  one_more = rw (add-one, e) (drop-cons fs i (file_in []) h)

  pub sizes-goes : (sum : ℕ) {w : ℕ} → sum + sizes (drop i fs) ≡ w → sum + f.size + sizes (drop (i + 1) fs) ≡ w
  unfolding sizes
  sizes-goes sum so_far = omega (arith, ap sizes one_more)

-- after the last
module _ (fs : List File) (i : ℕ) (h : length fs ≤ i) where
  pub none_left : drop i fs ≡ []
  none_left = drop_of_length-le fs {i = i} h

  pub sizes-ends : {sum w : ℕ} → sum + sizes (drop i fs) ≡ w → sum ≡ w
  unfolding sizes
  sizes-ends so_far = omega (arith, ap sizes none_left)

-- ---- the test of each, by its number

module _ (memory : List ℕ) (bottom : ℕ) where
  each_placed : (fs : List File) → list_all (placed memory bottom) fs ≡ all_placed fs memory bottom
  unfolding all_placed
  each_placed [] = refl
  each_placed (f ∷ fs) = ap (λ (b : Bool). placed memory bottom f && b) (each_placed fs)

  pub placed-all : (list : List ℕ) → list_all (λ (k : ℕ). placed memory bottom (file_at list k)) (range_with_len 0 (length (files_in list))) ≡ all_placed (files_in list) memory bottom
  placed-all list =
      let fs = files_in list in
      sym (list_all-map (placed memory bottom) (file_at list) _) ∙ ap (list_all (placed memory bottom)) (sym (fill_by_all (file_at list) fs (length fs) (file_in []) refl (λ k h. refl))) ∙ each_placed fs
