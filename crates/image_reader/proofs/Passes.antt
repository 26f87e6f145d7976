-- The two passes are `read_of`: a verdict on the whole, then what lies at each place.
use Prim.Native.Nat.{ℕ, zero, suc, ◌+◌, ◌-◌, ◌*◌, ◌≤◌, min}
use mathlib.Core.Path.{◌≡◌, refl, sym, ap, ap₂, ◌∙◌}
use mathlib.Core.List.{List, [], ◌++◌}
use native.Mathlib.Omega.{arith}
use lib.Dec.{eqb}
use lib.ListN.{length, take, drop, length-append}
use lib.Seq.{drop-drop}
use Rattle.model.specs.declared.Machine.{Machine}
use Rattle.model.specs.declared.Refusal.TheVariants.{TrailingBytes}
use Rattle.model.specs.Refusals.{demand, ◌then◌, Verdict}
use Rattle.model.proofs.Verdicts.{then_assoc}
use Rattle.image.specs.Bytes.{number_in, words_in}
use Rattle.image.specs.Format.{Field, version_field, registers_field, flags_field, count_field, words_field, end_field, words_per_field, fields_for, span_of}
use Rattle.image.specs.Reading.{Outcome, loaded, ◌▷◌, field_verdict, read_field, read_memory, read_of, machine_from}
use Rattle.image.proofs.Bytes.{length-words}
use Rattle.image.proofs.Places.{words_take, machine-take}
use Rattle.image.proofs.Outcomes.{verdicts-join}
use Rattle.image.proofs.Memories.{fields-enough}
use Rattle.image.proofs.Stages.{end_from, memory_from, count_from, flags_from, registers_from, in_stages}
use Rattle.image_reader.specs.Passes.{image_version, image_count, image_machine, image_memory, head_verdict, memory_verdict, end_verdict, tail_verdict, image_verdict}

-- the words of an image, by place
abbrev pub image_words : List ℕ → List ℕ
image_words bytes = image_memory (fields_for (image_count bytes)) (image_count bytes) (drop 53 bytes)

-- a field that starts at a place, and what follows it
read_at : (f : Field) (at : ℕ) (bytes : List ℕ) (next : List ℕ → List ℕ → Outcome) (w : Verdict) (o : Outcome)
    → next (take f.due (drop (at + 3) bytes)) (drop (at + (3 + f.due)) bytes) ≡ (w ▷ o)
    → read_field f (drop at bytes) next ≡ ((field_verdict f (drop at bytes) then w) ▷ o)
unfolding read_field
read_at f at bytes next w o e =
    verdicts-join (field_verdict f (drop at bytes)) w o
    (ap₂ (λ (x y : List ℕ). next (take f.due x) y) (drop-drop 3 at bytes) (drop-drop (3 + f.due) at bytes) ∙ e)

-- ---- the memory and the end

memory-passes : (n words : ℕ) (bytes : List ℕ) (next : List ℕ → List ℕ → Outcome) → words ≤ words_per_field * n
    → read_memory n words bytes next ≡ (memory_verdict n words bytes ▷ next (image_memory n words bytes) (drop (4 * words + 3 * n) bytes))
unfolding read_memory memory_verdict image_memory read_field
memory-passes zero words bytes next h = let e : 4 * words + 0 ≡ 0 = omega arith in ap (λ (k : ℕ). next [] (drop k bytes)) (sym e)
memory-passes (suc n) words bytes next h =
    let k : ℕ = min words_per_field words in
    let left : ℕ = words - words_per_field in
    let rest : List ℕ = drop (3 + 4 * k) bytes in
    let sum : 3 + 4 * k + (4 * left + 3 * n) ≡ 4 * words + 3 * suc n = omega arith in
    verdicts-join (field_verdict (words_field k) bytes) (memory_verdict n left rest) _
    (memory-passes n left rest (λ (more end : List ℕ). next (words_in k (take (4 * k) (drop 3 bytes)) ++ more) end) (omega arith)
    ∙ ap₂ (λ (x y : List ℕ). memory_verdict n left rest ▷ next (x ++ image_memory n left rest) y)
    (words_take k (drop 3 bytes))
    (drop-drop (4 * left + 3 * n) (3 + 4 * k) bytes ∙ ap (λ (x : ℕ). drop x bytes) sum))

pub length-image-memory : (n words : ℕ) (bytes : List ℕ) → words ≤ words_per_field * n → length (image_memory n words bytes) ≡ words
unfolding image_memory
length-image-memory zero words bytes h = omega arith
length-image-memory (suc n) words bytes h =
    let k : ℕ = min words_per_field words in
    length-append (words_in k (drop 3 bytes)) (image_memory n (words - words_per_field) (drop (3 + 4 * k) bytes))
    ∙ ap₂ (λ (x y : ℕ). x + y) (length-words k (drop 3 bytes)) (length-image-memory n (words - words_per_field) (drop (3 + 4 * k) bytes) (omega arith))
    ∙ omega arith

end-passes : (room : ℕ) (version registers flags memory bytes : List ℕ)
    → end_from room version registers flags memory bytes ≡ (end_verdict bytes ▷ loaded (number_in version) (machine_from registers flags) memory)
unfolding end_verdict read_field
end-passes room version registers flags memory bytes =
    verdicts-join (field_verdict end_field bytes) (demand (eqb (length (drop 3 bytes)) 0) TrailingBytes) (loaded (number_in version) (machine_from registers flags) memory) refl

-- ---- the whole

regroup : (u v w x y : Verdict) → ((u then v then w then x) then y) ≡ (u then v then w then x then y)
regroup u v w x y = then_assoc u (v then w then x) y ∙ ap (λ (z : Verdict). u then z) (then_assoc v (w then x) y ∙ ap (λ (z : Verdict). v then z) (then_assoc w x y))

module _ (bytes : List ℕ) (room : ℕ) where
  abbrev all : Outcome
  all = loaded (image_version bytes) (image_machine bytes) (image_words bytes)

  abbrev version : List ℕ
  version = take 1 (drop 3 bytes)

  abbrev registers : List ℕ
  registers = take 32 (drop 7 bytes)

  abbrev flags : List ℕ
  flags = take 4 (drop 42 bytes)

  abbrev tail : Verdict
  tail = tail_verdict (image_count bytes) 53 bytes

  tail-passes : memory_from room version registers flags (take 4 (drop 49 bytes)) (drop 53 bytes) ≡ (tail ▷ all)
  unfolding tail_verdict
  tail-passes =
      let M : ℕ = image_count bytes in
      let e : Verdict = end_verdict (drop (53 + span_of M) bytes) in
      memory-passes (fields_for M) M (drop 53 bytes) (end_from room version registers flags) (fields-enough M)
      ∙ verdicts-join (memory_verdict (fields_for M) M (drop 53 bytes)) e all
      (end-passes room version registers flags (image_words bytes) (drop (span_of M) (drop 53 bytes))
      ∙ ap₂ (λ (x : List ℕ) (m : Machine). end_verdict x ▷ loaded (image_version bytes) m (image_words bytes)) (drop-drop (span_of M) 53 bytes) (machine-take (drop 42 bytes) (drop 7 bytes)))

  pub by-passes : read_of bytes room ≡ (image_verdict bytes room ▷ all)
  unfolding head_verdict
  by-passes =
      let v₄ : Verdict = field_verdict (count_field room) (drop 46 bytes) in
      let v₃ : Verdict = field_verdict flags_field (drop 39 bytes) in
      let v₂ : Verdict = field_verdict registers_field (drop 4 bytes) in
      let v₁ : Verdict = field_verdict version_field bytes in
      in_stages room bytes
      ∙ read_at version_field 0 bytes (registers_from room) (v₂ then v₃ then v₄ then tail) all
      (read_at registers_field 4 bytes (flags_from room version) (v₃ then v₄ then tail) all
      (read_at flags_field 39 bytes (count_from room version registers) (v₄ then tail) all
      (read_at (count_field room) 46 bytes (memory_from room version registers flags) tail all tail-passes)))
      ∙ ap (λ (v : Verdict). v ▷ all) (sym (regroup v₁ v₂ v₃ v₄ tail))
