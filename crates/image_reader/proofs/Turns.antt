-- A turn of each pass over the fields of words.
use Rattle.std.specs.Prelude.{Ok, Err}
use Prim.Native.Nat.{ℕ, suc, ◌+◌, ◌-◌, ◌*◌, ◌<◌, min}
use mathlib.Core.Path.{◌≡◌, refl, sym, ap, ap₂, ◌∙◌}
use mathlib.Core.Bool.{Bool}
use mathlib.Core.List.{List, ◌++◌}
use native.Mathlib.Nat.{add-zero}
use native.Mathlib.Omega.{arith}
use lib.Dec.{leb}
use lib.ListN.{length, drop}
use lib.Seq.{drop-drop}
use Rattle.model.specs.declared.Refusal.{Refusal}
use Rattle.model.specs.declared.Refusal.TheVariants.{TrailingBytes}
use Rattle.model.specs.Refusals.{demand, ◌then◌, Verdict}
use Rattle.model.proofs.Verdicts.{then_assoc}
use Rattle.image.specs.Bytes.{words_in}
use Rattle.image.specs.Format.{words_field, end_field, words_per_field, fields_for, span_of}
use Rattle.image.specs.Reading.{header_verdict, field_verdict}
use Rattle.image.proofs.Headers.{without_rule, nothing-follows}
use Rattle.image.proofs.Memories.{one-field-less, span_step}
use Rattle.image_reader.specs.Passes.{image_memory, memory_verdict, end_verdict, tail_verdict}

module _ (left at count : ℕ) (bytes : List ℕ) (h : 0 < left) (e : count ≡ min words_per_field left) where
  fields : fields_for left ≡ suc (fields_for (left - count))
  fields = one-field-less left count h e

  fewer : left - words_per_field ≡ left - count
  fewer = omega arith

  rest : drop (3 + 4 * min words_per_field left) (drop at bytes) ≡ drop (at + 3 + 4 * count) bytes
  rest =
      let s : at + (3 + 4 * min words_per_field left) ≡ at + 3 + 4 * count = omega arith in
      drop-drop (3 + 4 * min words_per_field left) at bytes ∙ ap (λ (n : ℕ). drop n bytes) s

  tail_step : tail_verdict left at bytes ≡ (header_verdict 5 (4 * count) (drop at bytes) then tail_verdict (left - count) (at + 3 + 4 * count) bytes)
  unfolding tail_verdict memory_verdict
  tail_step =
      ap₂ (λ (n m : ℕ). memory_verdict n left (drop at bytes) then end_verdict (drop m bytes)) fields (span_step at left count h e)
      ∙ then_assoc (field_verdict (words_field (min words_per_field left)) (drop at bytes)) _ _
      ∙ (λ i.
      field_verdict (words_field (sym e i)) (drop at bytes)
      then (memory_verdict (fields_for (left - count)) (fewer i) (rest i) then end_verdict (drop (at + 3 + 4 * count + span_of (left - count)) bytes)))
      ∙ (λ i. sym (without_rule (words_field count) (drop at bytes) (λ value. refl)) i then tail_verdict (left - count) (at + 3 + 4 * count) bytes)

  -- the verdict on the next field, and what it leaves of the verdict on the whole
  tail_by : {v whole : Verdict} → v ≡ header_verdict 5 (4 * count) (drop at bytes) → tail_verdict left at bytes ≡ whole
      → (v then tail_verdict (left - count) (at + 3 + 4 * count) bytes) ≡ whole
  tail_by f e = ap (λ (v : Verdict). v then tail_verdict (left - count) (at + 3 + 4 * count) bytes) f ∙ sym tail_step ∙ e

  pub tail_refused : {why : Refusal} {v whole : Verdict} → v ≡ Err why → v ≡ header_verdict 5 (4 * count) (drop at bytes) → tail_verdict left at bytes ≡ whole → Err why ≡ whole
  tail_refused q f e = tail_by (sym q ∙ f) e

  pub tail_goes : {v whole : Verdict} → v ≡ Ok tt → v ≡ header_verdict 5 (4 * count) (drop at bytes) → tail_verdict left at bytes ≡ whole
      → tail_verdict (left - count) (at + 3 + 4 * count) bytes ≡ whole
  tail_goes q f e = tail_by (sym q ∙ f) e

  pub memory-step : image_memory (fields_for left) left (drop at bytes)
      ≡ words_in count (drop (at + 3) bytes) ++ image_memory (fields_for (left - count)) (left - count) (drop (at + 3 + 4 * count) bytes)
  unfolding image_memory
  memory-step =
      ap (λ (n : ℕ). image_memory n left (drop at bytes)) fields
      ∙ (λ i. words_in (sym e i) (drop-drop 3 at bytes i) ++ image_memory (fields_for (left - count)) (fewer i) (rest i))

-- no words are left: what the code tests of the end
pub tail_end : (left at : ℕ) (bytes : List ℕ) {header last both whole : Verdict} → left ≡ 0 → both ≡ (header then last) → header ≡ header_verdict 0xFF 0 (drop at bytes)
    → last ≡ demand (leb (length bytes) (at + 3)) TrailingBytes → tail_verdict left at bytes ≡ whole → both ≡ whole
unfolding tail_verdict memory_verdict fields_for end_verdict
tail_end left at bytes z b h l e =
    b
    ∙ ap₂ (λ (x y : Verdict). x then y) (h ∙ without_rule end_field (drop at bytes) (λ value. refl)) (l ∙ ap (λ (t : Bool). demand t TrailingBytes) (nothing-follows bytes at))
    ∙ ap (λ (n : ℕ). end_verdict (drop n bytes)) (sym (add-zero at))
    ∙ ap (λ (n : ℕ). tail_verdict n at bytes) (sym z)
    ∙ e
