use Prim.Native.Nat.{ℕ, ◌+◌, ◌-◌, ◌*◌, ◌≤◌, ◌<◌, min}
use mathlib.Core.Path.{◌≡◌, refl, sym, ap, ap₂, ◌∙◌}
use mathlib.Core.List.{List, ◌++◌}
use native.Mathlib.Omega.{arith}
use lib.ListN.{length, take, drop, length-drop}
use lib.Seq.{sets, length-take-le}
use borrow.Rule.Slice.PartMut.{put_mid}
use Rattle.std.proofs.lemmas.Slice.{between_to_end}
use Rattle.model.proofs.Stores.{store_step, store-end}
use Rattle.image.specs.Bytes.{words_in}
use Rattle.image.specs.Format.{words_per_field, fields_for, span_of}
use Rattle.image.proofs.Bytes.{length-words}
use Rattle.image.proofs.Memories.{span_step}
use Rattle.image.proofs.Parts.{part_stored}
use Rattle.image_reader.specs.Passes.{image_memory}
use Rattle.image_reader.proofs.Turns.{memory-step}
use Rattle.image_reader.proofs.loads.load_memory.Goals as goal

-- what a turn is given: k words of the memory, from a place on, become the next field's words
module _ (words from at count k rest : ℕ) (bytes memory part : List ℕ)
    (more : from < words) (fits : words ≤ length memory) (e : count ≡ min words_per_field (words - from)) (p : k ≡ count)
    (q : part ≡ words_in (length (take k (drop from memory))) (take rest (drop (at + 3) bytes))) (r : length bytes - (at + 3) ≡ rest) where
  read : part ≡ words_in count (drop (at + 3) bytes)
  read =
      let room : length (take k (drop from memory)) ≡ count = length-take-le k (drop from memory) (omega (arith, length-drop from memory)) ∙ p in
      rw (room, ← r, between_to_end bytes (at + 3) (length bytes) (omega arith)) at q

  abbrev left : ℕ → List ℕ → List ℕ
  left n from_here = image_memory (fields_for n) n from_here

  -- the next field, from its words on
  turn : (n from' : ℕ) (whole : List ℕ) → n ≡ words - from - count → from' ≡ from + count → sets memory (min from words) (left (words - from) (drop at bytes)) ≡ whole
      → sets (put_mid from k memory part) from' (left n (drop (at + 3 + 4 * count) bytes)) ≡ whole
  turn n from' whole less s so_far =
      let long : length part ≡ count = ap length read ∙ length-words count (drop (at + 3) bytes) in
      let here : from ≡ min from words = omega arith in
      store_step memory _ from from' part _ whole (part_stored from k memory part (omega arith) (omega arith)) (omega arith)
      (ap₂ (λ (m : ℕ) (x : List ℕ). sets memory m (x ++ left n (drop (at + 3 + 4 * count) bytes))) here read
      ∙ ap (λ (m : ℕ). sets memory (min from words) (words_in count (drop (at + 3) bytes) ++ left m (drop (at + 3 + 4 * count) bytes))) less
      ∙ ap (sets memory (min from words)) (sym (memory-step (words - from) at count bytes (omega arith) e))
      ∙ so_far)

pub overflow_add-value : goal.overflow_add-value
unfolding fields_for
overflow_add-value c = omega arith

pub get_words-requires : goal.get_words-requires
unfolding fields_for
get_words-requires c = omega arith

pub loop-field-preserved : goal.loop-field-preserved
loop-field-preserved c =
    let a = c.args in
    let l = c.loop-field in
    let from : ℕ = words_per_field * l.field in
    let count : ℕ = c.words_in_field-count.result in
    let e = c.words_in_field-count.ensures in
    let more : from < a.words = omega arith in
    let less : a.words - words_per_field * (l.field + 1) ≡ a.words - from - count = omega arith in (
      ap (λ (n : ℕ). l.at + 3 + 4 * count + span_of n) less ∙ sym (span_step l.at (a.words - from) count (omega arith) e) ∙ l.invariant.0,
      turn a.words from l.at count _ _ a.bytes.now l.memory c.get_words.new.out more (omega arith) e (omega arith) c.get_words.ensures refl _ _ _ less (omega arith) l.invariant.1,
    )

pub returns : goal.returns
unfolding fields_for image_memory
returns c =
    let l = c.loop-field in
    let none : c.args.words - words_per_field * l.field ≡ 0 = omega arith in
    store-end l.memory _ _ _ (ap (λ (n : ℕ). image_memory (fields_for n) n (drop l.at c.args.bytes.now)) none) l.invariant.1
