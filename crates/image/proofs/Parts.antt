-- A part of a list written over, and std's bytes of a number, lowest first.
use Prim.Native.Nat.{ℕ, ◌+◌, ◌≤◌}
use mathlib.Core.Path.{◌≡◌, refl, sym, ap, ◌∙◌}
use mathlib.Core.List.{List, ◌++◌, append_assoc}
use native.Mathlib.Nat.{div-div-eq-div-mul}
use native.Mathlib.Omega.{arith}
use lib.ListN.{length, take, drop}
use lib.Seq.{sets, sets-eq, drop-drop}
use borrow.Rule.Slice.PartMut.{put_mid}
use Rattle.std.proofs.Common.{w16, w32}
use Rattle.std.specs.Int.{to_le_bytes}
use Rattle.image.specs.Bytes.{bytes_of}

-- what a part now holds is stored from its place on
pub part_stored : (at k : ℕ) (list values : List ℕ) → length values ≡ k → at + k ≤ length list → put_mid at k list values ≡ sets list at values
part_stored at k list values e h =
    ap (λ (l : List ℕ). take at list ++ (values ++ l)) (drop-drop k at list ∙ ap (λ (n : ℕ). drop (at + n) list) (sym e))
    ∙ sym (append_assoc (take at list) values (drop (at + length values) list))
    ∙ sym (sets-eq values list at (omega arith))

pub two_low_first : (n : ℕ) → to_le_bytes w16 n ≡ bytes_of 2 n
unfolding bytes_of
two_low_first n = refl

pub four_low_first : (n : ℕ) → to_le_bytes w32 n ≡ bytes_of 4 n
unfolding bytes_of
four_low_first n = simp div-div-eq-div-mul
