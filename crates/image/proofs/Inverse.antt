-- What is written is read back, only what the writer can produce is read, and how long an image is.
use Rattle.std.specs.Prelude.{Ok}
use Prim.Native.Nat.{ℕ, ◌+◌}
use mathlib.Core.Path.{◌≡◌, refl, sym, ap, ap₂, ◌∙◌}
use mathlib.Core.Bool.{Bool, true}
use mathlib.Core.List.{List, [], ◌∷◌, ◌++◌, append_assoc, append-nil}
use native.Mathlib.Omega.{arith}
use lib.Dec.{eqb, leb, lit<}
use lib.ListN.{length, length-append}
use borrow.Author.Tests.{le-leb, eqb-true}
use Rattle.model.specs.declared.Machine.{Machine}
use Rattle.model.specs.declared.Refusal.TheVariants.{WrongVersion, BadFlag, BadWordCount, ShortMemory, TrailingBytes}
use Rattle.model.specs.Packed.{flag_numbers}
use Rattle.model.specs.Refusals.{demand, ◌then◌, most_words, Verdict}
use Rattle.model.proofs.Verdicts.{then_assoc, demanded}
use Rattle.image.specs.Bytes.{bytes_of, number_in, word_bytes, words_in, Below}
use Rattle.image.specs.Format.{field_bytes, is_version, count_formed, version_field, registers_field, flags_field, count_field, end_field, fields_for, memory_fields, image_of}
use Rattle.image.specs.Reading.{Outcome, loaded, ◌▷◌, read_of, machine_from}
use Rattle.image.specs.Theorems.{RoundTrip, OnlyImages, ImageRead, Size}
use Rattle.image.proofs.Bytes.{no-elements, length-bytes, number-bytes, bytes-number, single, length-word-bytes, bytes-of-words}
use Rattle.image.proofs.Outcomes.{went_on}
use Rattle.image.proofs.Fields.{length-field, field-goes, field-taken}
use Rattle.image.proofs.Memories.{fields-enough, length-memory, memory-goes, memory-taken}
use Rattle.image.proofs.Machines.{length-registers, flags-formed, machine-back, flags-back}
use Rattle.image.proofs.Stages.{end_from, memory_from, count_from, flags_from, registers_from, in_stages}

-- ---- what was written is read, and what is refused of it

pub image-read : ImageRead
unfolding read_of image_of field_bytes number_in
image-read version machine memory rest room eight registers-below few memory-below =
    let on_version : Verdict = demand (is_version version) WrongVersion in
    let on_count : Verdict = demand (count_formed (length memory)) BadWordCount in
    let on_room : Verdict = demand (leb (length memory) room) ShortMemory in
    let on_rest : Verdict = demand (eqb (length rest) 0) TrailingBytes in
    let lr : length (word_bytes machine.regs) ≡ 32 = length-registers machine eight in
    let e_v : version + 0 ≡ version = omega arith in
    let M : ℕ = number_in (bytes_of 4 (length memory)) in
    let e_m : M ≡ length memory = number-bytes 4 (length memory) few in
    let o : Outcome = loaded version machine memory in
    let w : Verdict = on_count then on_room then on_rest in
    field-goes version_field (version ∷ []) _ refl (lit< tt) _ _ on_version w o (simp append_assoc) (ap (λ (v : ℕ). demand (is_version v) WrongVersion) e_v)
    (field-goes registers_field (word_bytes machine.regs) _ lr (lit< tt) _ _ (Ok tt) w o refl refl
    (field-goes flags_field (flag_numbers machine.flags) _ refl (lit< tt) _ _ (Ok tt) w o refl (ap (λ (t : Bool). demand t BadFlag) (flags-formed machine.flags))
    (field-goes (count_field room) (bytes_of 4 (length memory)) _ (length-bytes 4 (length memory)) (lit< tt) _ _ (on_count then on_room) on_rest o refl
    (ap (λ (n : ℕ). demand (count_formed n) BadWordCount then demand (leb n room) ShortMemory) e_m)
    (memory-goes (fields_for M) M _ memory (field_bytes end_field [] ++ rest) _ _ (ap (λ (n : ℕ). memory_fields (fields_for n) memory ++ (field_bytes end_field [] ++ rest)) (sym e_m)) (sym e_m) (fields-enough M) memory-below
    (field-goes end_field [] rest refl (lit< tt) _ _ (Ok tt) on_rest o refl refl
    (ap₂ (λ (v : ℕ) (m : Machine). on_rest ▷ loaded v m memory) e_v (machine-back machine eight registers-below))))
    ∙ ap (λ (v : Verdict). v ▷ o) (then_assoc on_count on_room on_rest))))

pub round_trip : RoundTrip
round_trip version machine memory room known eight registers-below some most memory-below fits =
    let a : leb 1 (length memory) ≡ true = le-leb _ _ some in
    let b : leb (length memory) most_words ≡ true = le-leb _ _ most in
    let c : leb (length memory) room ≡ true = le-leb _ _ fits in
    ap (λ (bytes : List ℕ). read_of bytes room) (sym (append-nil (image_of version machine memory)))
    ∙ image-read version machine memory [] room eight registers-below (omega arith) memory-below
    ∙ rw (known, a, b, c)

-- ---- bytes that are read are the image of what was read

module _ (room version₀ : ℕ) (machine : Machine) (memory : List ℕ) where
  -- the bytes from each field on
  abbrev end : List ℕ
  end = field_bytes end_field []

  abbrev from_memory : List ℕ
  from_memory = memory_fields (fields_for (length memory)) memory ++ end

  abbrev from_count : List ℕ
  from_count = field_bytes (count_field (length memory)) (bytes_of 4 (length memory)) ++ from_memory

  abbrev from_flags : List ℕ
  from_flags = field_bytes flags_field (flag_numbers machine.flags) ++ from_count

  abbrev from_registers : List ℕ
  from_registers = field_bytes registers_field (word_bytes machine.regs) ++ from_flags

  abbrev all : Outcome
  all = loaded version₀ machine memory

  end_is : (version registers flags words bytes : List ℕ) → Below 256 bytes → end_from room version registers flags words bytes ≡ all
      → (bytes ≡ end) × (number_in version ≡ version₀) × (machine_from registers flags ≡ machine) × (words ≡ memory)
  end_is version registers flags words bytes h e =
      let t = field-taken end_field (λ (nothing rest : List ℕ). demand (eqb (length rest) 0) TrailingBytes ▷ loaded (number_in version) (machine_from registers flags) words) bytes h e in
      let k = went_on (demand (eqb (length t.rest) 0) TrailingBytes) (loaded (number_in version) (machine_from registers flags) words) t.goes in
      let l : loaded (number_in version) (machine_from registers flags) words ≡ all = k.1 in
      let none : length t.rest ≡ 0 = eqb-true _ _ (demanded _ _ k.0) in
      (t.is ∙ ap₂ (λ (x y : List ℕ). field_bytes end_field x ++ y) (no-elements t.value t.long) (no-elements t.rest none) ∙ append-nil end, cc, cc, cc)

  memory-is : (version registers flags count bytes : List ℕ) → length count ≡ 4 → Below 256 count → Below 256 bytes → memory_from room version registers flags count bytes ≡ all
      → (count ≡ bytes_of 4 (length memory)) × (bytes ≡ from_memory) × (number_in version ≡ version₀) × (machine_from registers flags ≡ machine)
  memory-is version registers flags count bytes l hc h e =
      let M : ℕ = number_in count in
      let t = memory-taken (fields_for M) M (end_from room version registers flags) bytes (fields-enough M) h e in
      let z = end_is version registers flags t.memory t.rest t.rest_below t.goes in
      let lm : M ≡ length memory = sym t.long ∙ ap length z.3 in (
        sym (bytes-number count hc) ∙ ap₂ (λ (x y : ℕ). bytes_of x y) l lm,
        t.is ∙ ap₂ (λ (x y : List ℕ). memory_fields (fields_for M) x ++ y) z.3 z.0 ∙ ap (λ (n : ℕ). memory_fields (fields_for n) memory ++ end) lm,
        z.1,
        z.2,
      )

  flags-is : (version registers bytes : List ℕ) → Below 256 bytes → flags_from room version registers bytes ≡ all
      → (bytes ≡ from_flags) × (number_in version ≡ version₀) × (words_in 8 registers ≡ machine.regs)
  unfolding field_bytes
  flags-is version registers bytes h e =
      let f = field-taken flags_field (count_from room version registers) bytes h e in
      let t = field-taken (count_field room) (memory_from room version registers f.value) f.rest f.rest_below f.goes in
      let z = memory-is version registers f.value t.value t.rest t.long t.value-below t.rest_below t.goes in
      let flags : f.value ≡ flag_numbers machine.flags = sym (flags-back registers f.value f.long (demanded _ BadFlag f.follows)) ∙ ap (λ (m : Machine). flag_numbers m.flags) z.3 in (
        f.is ∙ ap₂ (λ (x y : List ℕ). field_bytes flags_field x ++ y) flags (t.is ∙ ap₂ (λ (x y : List ℕ). field_bytes (count_field (length memory)) x ++ y) z.0 z.1),
        z.2,
        ap (λ (m : Machine). m.regs) z.3,
      )

  registers-is : (version bytes : List ℕ) → Below 256 bytes → registers_from room version bytes ≡ all → (bytes ≡ from_registers) × (number_in version ≡ version₀)
  registers-is version bytes h e =
      let t = field-taken registers_field (flags_from room version) bytes h e in
      let z = flags-is version t.value t.rest t.rest_below t.goes in
      let registers : t.value ≡ word_bytes machine.regs = sym (bytes-of-words 8 t.value t.long t.value-below) ∙ ap word_bytes z.2 in
      (t.is ∙ ap₂ (λ (x y : List ℕ). field_bytes registers_field x ++ y) registers z.0, z.1)

pub only_images : OnlyImages
unfolding image_of
only_images room version₀ machine memory bytes h e =
    let t = field-taken version_field (registers_from room) bytes h (sym (in_stages room bytes) ∙ e) in
    let z = registers-is room version₀ machine memory t.value t.rest t.rest_below t.goes in
    let version : t.value ≡ version₀ ∷ [] = single t.value t.long ∙ ap {B = List ℕ} (λ (x : ℕ). x ∷ []) z.1 in
    t.is ∙ ap₂ (λ (x y : List ℕ). field_bytes version_field x ++ y) version z.0

-- ---- the size

pub size : Size
unfolding image_of
size version machine memory eight =
    let n : ℕ = fields_for (length memory) in
    let m : List ℕ = memory_fields n memory in
    let f₁ : List ℕ = field_bytes version_field (version ∷ []) in
    let f₂ : List ℕ = field_bytes registers_field (word_bytes machine.regs) in
    let f₃ : List ℕ = field_bytes flags_field (flag_numbers machine.flags) in
    let f₄ : List ℕ = field_bytes (count_field (length memory)) (bytes_of 4 (length memory)) in
    let f₅ : List ℕ = field_bytes end_field [] in
    omega (
      arith,
      length-append f₁ (f₂ ++ (f₃ ++ (f₄ ++ (m ++ f₅)))),
      length-append f₂ (f₃ ++ (f₄ ++ (m ++ f₅))),
      length-append f₃ (f₄ ++ (m ++ f₅)),
      length-append f₄ (m ++ f₅),
      length-append m f₅,
      length-field version_field (version ∷ []),
      length-field registers_field (word_bytes machine.regs),
      length-word-bytes machine.regs,
      length-field flags_field (flag_numbers machine.flags),
      length-field (count_field (length memory)) (bytes_of 4 (length memory)),
      length-bytes 4 (length memory),
      length-field end_field [],
      length-memory n memory (fields-enough (length memory)),
    )
