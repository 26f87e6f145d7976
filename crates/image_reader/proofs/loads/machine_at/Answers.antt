use Prim.Native.Nat.{ℕ}
use mathlib.Core.Path.{◌≡◌, ap, ◌∙◌}
use mathlib.Core.List.{List}
use native.Mathlib.Omega.{arith}
use lib.Dec.{eqb}
use lib.ListN.{drop}
use Rattle.std.proofs.lemmas.Slice.{between_to_end}
use Rattle.image.specs.Bytes.{words_in}
use Rattle.image_reader.proofs.Head.{flag_at}
use Rattle.image_reader.proofs.loads.machine_at.Goals as goal

pub returns : goal.returns
unfolding words_in
returns c =
    let bytes : List ℕ = c.args.bytes.now in
    let r : _ ≡ words_in 8 (drop 7 bytes) = c.get_words.ensures ∙ ap (words_in 8) (between_to_end bytes 7 _ (omega arith)) in
    let e₀ = flag_at bytes 0 c.byte_at.ensures.is in
    let e₁ = flag_at bytes 1 c.byte_at-2.ensures.is in
    let e₂ = flag_at bytes 2 c.byte_at-3.ensures.is in
    let e₃ = flag_at bytes 3 c.byte_at-4.ensures.is in
    λ i. record { regs = r i; flags = record { carry = eqb (e₀ i) 1; overflow = eqb (e₁ i) 1; negative = eqb (e₂ i) 1; zero = eqb (e₃ i) 1 } }
