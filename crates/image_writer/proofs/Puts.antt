-- Fields stored one after the other.
use Prim.Native.Nat.{ℕ, ◌+◌}
use mathlib.Core.Path.{◌≡◌, refl, ap, ◌∙◌}
use mathlib.Core.List.{List, [], ◌∷◌, ◌++◌}
use native.Mathlib.Omega.{arith}
use lib.ListN.{length}
use lib.Seq.{sets}
use Rattle.model.specs.declared.Machine.{Machine}
use Rattle.model.specs.Packed.{flag_numbers}
use Rattle.model.proofs.Stores.{store_step}
use Rattle.image.specs.Bytes.{bytes_of, word_bytes}
use Rattle.image.specs.Format.{Field, field_bytes, version_field, registers_field, flags_field, count_field, end_field, fields_for, span_of, memory_fields, image_of}
use Rattle.image.proofs.Bytes.{length-bytes, length-word-bytes}
use Rattle.image.proofs.Fields.{length-field}
use Rattle.image.proofs.Memories.{fields-enough, length-memory}

-- a header and then a value are a field
pub field_put : (f : Field) (out out' out'' : List ℕ) (at n : ℕ) (value : List ℕ) → out' ≡ sets out at (f.tag ∷ bytes_of 2 n) → out'' ≡ sets out' (at + 3) value
    → n ≡ length value → out'' ≡ sets out at (field_bytes f value)
unfolding field_bytes bytes_of
field_put f out out' out'' at n value p q e =
    q
    ∙ store_step out out' at (at + 3) (f.tag ∷ bytes_of 2 n) value _ p refl refl
    ∙ ap (λ (k : ℕ). sets out at (f.tag ∷ (bytes_of 2 k ++ value))) e

version-field : (version : ℕ) → ◌≡◌ {A = List ℕ} (1 ∷ 1 ∷ 0 ∷ version ∷ []) (field_bytes version_field (version ∷ []))
unfolding field_bytes bytes_of
version-field version = refl

end-field : ◌≡◌ {A = List ℕ} (0xFF ∷ bytes_of 2 0) (field_bytes end_field [])
unfolding field_bytes bytes_of
end-field = refl

-- the fields stored one after the other are the image
pub image-put : (version : ℕ) (machine : Machine) (memory o₀ o₁ o₂ o₃ o₄ o₅ o₆ : List ℕ) (end : ℕ)
    → length machine.regs ≡ 8 → end ≡ 53 + span_of (length memory)
    → o₁ ≡ sets o₀ 0 (1 ∷ 1 ∷ 0 ∷ version ∷ [])
    → o₂ ≡ sets o₁ 4 (field_bytes registers_field (word_bytes machine.regs))
    → o₃ ≡ sets o₂ 39 (field_bytes flags_field (flag_numbers machine.flags))
    → o₄ ≡ sets o₃ 46 (field_bytes (count_field (length memory)) (bytes_of 4 (length memory)))
    → o₅ ≡ sets o₄ 53 (memory_fields (fields_for (length memory)) memory)
    → o₆ ≡ sets o₅ end (0xFF ∷ bytes_of 2 0)
    → o₆ ≡ sets o₀ 0 (image_of version machine memory)
unfolding image_of
image-put version machine memory o₀ o₁ o₂ o₃ o₄ o₅ o₆ end eight at p₁ p₂ p₃ p₄ p₅ p₆ =
    let f₁ : List ℕ = field_bytes version_field (version ∷ []) in
    let f₂ : List ℕ = field_bytes registers_field (word_bytes machine.regs) in
    let f₃ : List ℕ = field_bytes flags_field (flag_numbers machine.flags) in
    let f₄ : List ℕ = field_bytes (count_field (length memory)) (bytes_of 4 (length memory)) in
    let f₅ : List ℕ = memory_fields (fields_for (length memory)) memory in
    let f₆ : List ℕ = field_bytes end_field [] in
    let n₁ : 4 ≡ 0 + length f₁ = omega (arith, length-field version_field (version ∷ [])) in
    let n₂ : 39 ≡ 4 + length f₂ = omega (arith, length-field registers_field (word_bytes machine.regs), length-word-bytes machine.regs) in
    let n₃ : 46 ≡ 39 + length f₃ = omega (arith, length-field flags_field (flag_numbers machine.flags)) in
    let n₄ : 53 ≡ 46 + length f₄ = omega (arith, length-field (count_field (length memory)) (bytes_of 4 (length memory)), length-bytes 4 (length memory)) in
    let n₅ : end ≡ 53 + length f₅ = omega (arith, length-memory (fields_for (length memory)) memory (fields-enough (length memory))) in
    p₆
    ∙ ap (sets o₅ end) end-field
    ∙ store_step o₄ o₅ 53 end f₅ f₆ _ p₅ n₅
    (store_step o₃ o₄ 46 53 f₄ (f₅ ++ f₆) _ p₄ n₄
    (store_step o₂ o₃ 39 46 f₃ (f₄ ++ (f₅ ++ f₆)) _ p₃ n₃
    (store_step o₁ o₂ 4 39 f₂ (f₃ ++ (f₄ ++ (f₅ ++ f₆))) _ p₂ n₂
    (store_step o₀ o₁ 0 4 f₁ (f₂ ++ (f₃ ++ (f₄ ++ (f₅ ++ f₆)))) _ (p₁ ∙ ap (sets o₀ 0) (version-field version)) n₁ refl))))
