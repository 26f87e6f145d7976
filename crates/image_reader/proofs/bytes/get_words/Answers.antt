use Prim.Native.Nat.{ℕ, ◌+◌, ◌-◌, ◌*◌}
use mathlib.Core.Path.{◌≡◌, refl, sym, ap, ◌∙◌}
use mathlib.Core.List.{List, [], ◌∷◌}
use native.Mathlib.Nat.{sub-zero}
use native.Mathlib.Omega.{arith}
use lib.ListN.{length, drop}
use lib.Seq.{sets}
use Rattle.model.proofs.Stores.{store_step, store-end, all_set}
use Rattle.image.specs.Bytes.{words_in}
use Rattle.image.proofs.Bytes.{length-words}
use Rattle.image.proofs.Places.{word_after}
use Rattle.image_reader.proofs.bytes.get_words.Goals as goal

pub loop-i-init : goal.loop-i-init
loop-i-init c =
    let n : ℕ = length c.args.out.now in
    rw sub-zero (all_set c.args.out.now (words_in n c.args.bytes.now) (sym (length-words n c.args.bytes.now)))

pub loop-i-preserved : goal.loop-i-preserved
loop-i-preserved c =
    let l = c.loop-i in
    let bytes : List ℕ = c.args.bytes.now in
    let n : ℕ = length c.args.out.now in
    let word : ℕ = c.word_in.result in
    let rest : List ℕ = words_in (n - (l.i + 1)) (drop (4 * (l.i + 1)) bytes) in
    let e₀ : 4 * (l.i + 1) ≡ 4 * l.i + 4 = omega arith in
    let e₁ : n - l.i ≡ n - (l.i + 1) + 1 = omega arith in
    let next = word_after bytes (4 * l.i) (4 * (l.i + 1)) (n - l.i) (n - (l.i + 1)) e₀ e₁ in
    store_step l.out _ l.i _ (word ∷ []) rest _ refl (omega arith) (ap (sets l.out l.i) (ap (λ (x : ℕ). x ∷ rest) c.word_in.ensures ∙ sym next) ∙ l.invariant)

pub returns : goal.returns
unfolding words_in
returns c =
    let l = c.loop-i in
    let n : ℕ = length c.args.out.now in
    let none : n - l.i ≡ 0 = omega arith in
    store-end l.out _ _ _ (ap (λ (k : ℕ). words_in k (drop (4 * l.i) c.args.bytes.now)) none) l.invariant
