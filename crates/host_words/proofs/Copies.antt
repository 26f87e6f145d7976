-- What fills a lent slice in two parts.
use Prim.Native.Nat.{ℕ, ◌-◌, ◌≤◌}
use mathlib.Core.Path.{◌≡◌, ap, ◌∙◌}
use mathlib.Core.List.{List, ◌++◌, append-nil}
use native.Mathlib.Omega.{arith}
use lib.ListN.{length, drop, length-append}
use lib.Seq.{take_at, drop-length}
use borrow.Rule.Slice.PartMut.{put_mid, post_of, Post-is}

-- the first k places copied as a part, and the rest as another
pub parts-copied : (k : ℕ) (l a b : List ℕ) → length a ≡ k → put_mid k (length (a ++ drop k l) - k) (a ++ drop k l) b ≡ a ++ b
parts-copied k l a b h =
    let xs = a ++ drop k l in
    let within : k ≤ length xs = simp length-append (omega arith) in
    ap (λ (t : List ℕ). t ++ (b ++ post_of k (length xs - k) xs)) (take_at a (drop k l) k h)
    ∙ ap (λ (t : List ℕ). a ++ (b ++ t)) (Post-is k (length xs) xs within ∙ drop-length xs)
    ∙ ap (λ (t : List ℕ). a ++ t) (append-nil b)
