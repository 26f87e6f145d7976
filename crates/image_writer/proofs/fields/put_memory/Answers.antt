use Prim.Native.Nat.{ℕ, ◌+◌, ◌-◌, ◌*◌, ◌<◌, min}
use mathlib.Core.Path.{◌≡◌, sym, ap, ◌∙◌}
use mathlib.Core.List.{List, [], ◌++◌}
use native.Mathlib.Omega.{arith}
use lib.ListN.{length, length-append}
use lib.Seq.{sets}
use borrow.Author.Rules.{rules}
use Rattle.std.proofs.lemmas.List.{nil_from_length}
use Rattle.std.specs.Slice.Iter.{chunks_rest}
use Rattle.model.proofs.Stores.{store_step, store-end}
use Rattle.image.specs.Bytes.{word_bytes}
use Rattle.image.specs.Format.{field_bytes, words_field, words_per_field, fields_for, span_of, memory_fields}
use Rattle.image.proofs.Memories.{span_step, next_field, length-word-field}
use Rattle.image_writer.proofs.fields.put_memory.Goals as goal

-- the bytes of a field and of what is left after it
span_less : (at : ℕ) (words first rest : List ℕ) → words ≡ first ++ rest → length first ≡ min words_per_field (length words) → 0 < length words
    → at + span_of (length words) ≡ at + (3 + 4 * length first) + span_of (length rest)
span_less at words first rest parts e h =
    let left : length words - length first ≡ length rest = omega (arith, length-append first rest, ap length parts) in
    span_step at (length words) (length first) h e
    ∙ omega (arith, ap span_of left)

pub put_word_field-requires : goal.put_word_field-requires
put_word_field-requires c =
    let l = c.loop-words in
    let steps = c.in-Some.ensures.steps in
    let size = l.invariant.2 in
    let first : length c.in-Some.words.now ≡ min words_per_field (length (chunks_rest l.words-iterator)) = rw size at steps.1.1 in
    omega (arith, span_less l.at _ _ _ steps.1.0 first steps.1.2)

pub loop-words-preserved : goal.loop-words-preserved
loop-words-preserved c =
    let l = c.loop-words in
    let steps = c.in-Some.ensures.steps in
    let size = l.invariant.2 in
    let words : List ℕ = c.in-Some.words.now in
    let first : length words ≡ min words_per_field (length (chunks_rest l.words-iterator)) = rw size at steps.1.1 in (
      search rules,
      tt,
      steps.0 ∙ size,
      omega (arith, span_less l.at _ _ _ steps.1.0 first steps.1.2),
      store_step l.out _ l.at _ (field_bytes (words_field (length words)) (word_bytes words)) _ _ c.put_word_field.ensures (omega (arith, length-word-field words))
          (ap (sets l.out l.at) (sym (next_field _ words _ steps.1.0 first steps.1.2)) ∙ l.invariant.4),
    )

pub returns : goal.returns
unfolding fields_for memory_fields
returns c =
    let l = c.loop-words in
    let none : chunks_rest l.words-iterator ≡ [] = nil_from_length _ c.in-None.ensures.steps.1.0 in
    store-end l.out _ _ _ (ap (λ (words : List ℕ). memory_fields (fields_for (length words)) words) none) l.invariant.4
