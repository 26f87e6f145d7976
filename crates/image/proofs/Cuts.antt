-- Whatever is left of an image once bytes are missing at its end is refused with 8.
use Rattle.std.specs.Prelude.{Ok, Err}
use Prim.Native.Nat.{ℕ, zero, suc, ◌+◌, ◌-◌, ◌*◌, ◌^◌, ◌≤◌, ◌<◌, min}
use mathlib.Core.Path.{◌≡◌, refl, sym, ap, subst, ◌∙◌}
use mathlib.Core.Bool.{Bool, true}
use mathlib.Core.List.{List, [], ◌∷◌, ◌++◌, append_assoc}
use native.Mathlib.Decide.{dec_lt}
use native.Mathlib.Omega.{arith}
use lib.Dec.{leb, lit<}
use lib.ListN.{length, take, drop, length-append, length-take}
use lib.Seq.{take-append-add}
use borrow.Author.Tests.{le-leb}
use Rattle.model.specs.declared.Refusal.TheVariants.{CutImage, WrongVersion, BadFlag}
use Rattle.model.specs.Packed.{flag_numbers}
use Rattle.model.specs.Refusals.{demand, most_words, Verdict}
use Rattle.image.specs.Bytes.{bytes_of, number_in, word_bytes, words_in, Below}
use Rattle.image.specs.Format.{Field, field_bytes, is_version, version_field, registers_field, flags_field, count_field, words_field, end_field, words_per_field, fields_for, memory_fields, image_of}
use Rattle.image.specs.Reading.{Outcome, refused, ◌▷◌, field_verdict, read_field, read_memory, read_of}
use Rattle.image.specs.Theorems.{Cut}
use Rattle.image.proofs.Bytes.{no-elements, length-bytes, number-bytes, below-drop}
use Rattle.image.proofs.Headers.{cut-header, cut-value, with_rule}
use Rattle.image.proofs.Fields.{length-field, field-goes}
use Rattle.image.proofs.Memories.{fields-enough, length-first-bytes, length_more, first-and-more}
use Rattle.image.proofs.Machines.{length-registers, flags-formed}
use Rattle.image.proofs.Stages.{end_from}

-- ---- a field that is cut, or after which something is

module _ (f : Field) (value rest : List ℕ) (next : List ℕ → List ℕ → Outcome)
    (long : length value ≡ f.due) (short : f.due < 65536) (follows : f.rule value ≡ Ok tt) where
  header-cut : (k : ℕ) → k < 3 → field_verdict f (take k (field_bytes f value ++ rest)) ≡ Err CutImage
  header-cut k h =
      let part : List ℕ = take k (field_bytes f value ++ rest) in
      let l : length part ≡ min k (length (field_bytes f value ++ rest)) = length-take k (field_bytes f value ++ rest) in
      sym (with_rule f part refl (cut-header f.tag f.due 0 part (omega arith)) refl)

  value-cut : (j : ℕ) → j < f.due → field_verdict f (take (suc (suc (suc j))) (field_bytes f value ++ rest)) ≡ Err CutImage
  unfolding field_bytes bytes_of
  value-cut j h =
      let part : List ℕ = take (suc (suc (suc j))) (field_bytes f value ++ rest) in
      let l : length (take j (value ++ rest)) ≡ min j (length (value ++ rest)) = length-take j (value ++ rest) in
      sym
      (with_rule f part refl
      (cut-value f.tag f.due 0 part (omega arith) refl (number-bytes 2 (length value) (omega arith) ∙ long) (omega arith))
      refl)

  field_cut : (k : ℕ) → k < length (field_bytes f value ++ rest) → ((j : ℕ) → j < length rest → next value (take j rest) ≡ refused CutImage)
      → read_field f (take k (field_bytes f value ++ rest)) next ≡ refused CutImage
  unfolding read_field
  field_cut k h later = go (dec_lt k 3) (dec_lt k (3 + f.due))
    where
      all : List ℕ
      all = field_bytes f value ++ rest

      missing : field_verdict f (take k all) ≡ Err CutImage → read_field f (take k all) next ≡ refused CutImage
      missing e = ap (λ (v : Verdict). v ▷ next (take f.due (drop 3 (take k all))) (drop (3 + f.due) (take k all))) e

      go : Dec (k < 3) → Dec (k < 3 + f.due) → read_field f (take k all) next ≡ refused CutImage
      go (yes p) d = missing (header-cut k p)
      go (no p) (yes q) =
          let e : suc (suc (suc (k - 3))) ≡ k = omega arith in
          missing (ap (λ (n : ℕ). field_verdict f (take n all)) (sym e) ∙ value-cut (k - 3) (omega arith))
      go (no p) (no q) =
          let j : ℕ = k - (3 + f.due) in
          let e : k ≡ length (field_bytes f value) + j = omega (arith, length-field f value) in
          let h' : j < length rest = omega (arith, length-field f value, length-append (field_bytes f value) rest) in
          field-goes f value (take j rest) long short (take k all) next (Ok tt) (Ok tt) (refused CutImage)
          (ap (λ (n : ℕ). take n all) e ∙ take-append-add (field_bytes f value) rest j) follows (later j h')

end-cut : (next : List ℕ → List ℕ → Outcome) (k : ℕ) → k < length (field_bytes end_field []) → read_field end_field (take k (field_bytes end_field [])) next ≡ refused CutImage
unfolding field_bytes bytes_of
end-cut next k h = field_cut end_field [] [] next refl (lit< tt) refl k h (λ j p. absurd (omega arith))

-- ---- the fields of words

memory-cut : (n words : ℕ) (memory rest : List ℕ) (next : List ℕ → List ℕ → Outcome) → length memory ≡ words → words ≤ words_per_field * n → Below (2 ^ 32) memory
    → ((j : ℕ) → j < length rest → next memory (take j rest) ≡ refused CutImage)
    → (k : ℕ) → k < length (memory_fields n memory ++ rest) → read_memory n words (take k (memory_fields n memory ++ rest)) next ≡ refused CutImage
unfolding read_memory memory_fields field_bytes
memory-cut zero words memory rest next l h b later k q = ap (λ (m : List ℕ). next m (take k rest)) (sym (no-elements memory (omega arith))) ∙ later k q
memory-cut (suc n) words memory rest next l h b later k q =
    let value : List ℕ = word_bytes (take words_per_field memory) in
    let more : List ℕ = drop words_per_field memory in
    let count : ℕ = min words_per_field words in
    let a : (field_bytes (words_field count) value ++ memory_fields n more) ++ rest ≡ field_bytes (words_field count) value ++ (memory_fields n more ++ rest) =
    append_assoc (field_bytes (words_field count) value) (memory_fields n more) rest in
    ap (λ (x : List ℕ). read_memory (suc n) words (take k x) next) a
    ∙ field_cut (words_field count) value (memory_fields n more ++ rest) _ (length-first-bytes words memory l) (omega arith) refl k (subst (λ (x : List ℕ). k < length x) a q)
    (memory-cut n (words - words_per_field) more rest (λ (later end : List ℕ). next (words_in count value ++ later) end)
    (length_more words memory l) (omega arith) (below-drop _ words_per_field memory b)
    (λ j p. ap (λ (x : List ℕ). next x (take j rest)) (first-and-more words memory l b) ∙ later j p))

-- ---- the image

count-rule : (memory : List ℕ) (room : ℕ) → 1 ≤ length memory → length memory ≤ most_words → length memory ≤ room → (count_field room).rule (bytes_of 4 (length memory)) ≡ Ok tt
count-rule memory room some most fits =
    let M : ℕ = number_in (bytes_of 4 (length memory)) in
    let e : M ≡ length memory = number-bytes 4 (length memory) (omega arith) in
    let a : leb 1 M ≡ true = le-leb 1 M (omega arith) in
    let b : leb M most_words ≡ true = le-leb M most_words (omega arith) in
    let c : leb M room ≡ true = le-leb M room (omega arith) in
    rw (a, b, c)

version-rule : (version : ℕ) → is_version version ≡ true → version_field.rule (version ∷ []) ≡ Ok tt
unfolding number_in
version-rule version known =
    let e : version + 0 ≡ version = omega arith in
    ap (λ (v : ℕ). demand (is_version v) WrongVersion) e ∙ ap (λ (t : Bool). demand t WrongVersion) known

pub cut : Cut
unfolding read_of image_of field_bytes
cut version machine memory room known eight some most memory-below fits k h =
    let lr : length (word_bytes machine.regs) ≡ 32 = length-registers machine eight in
    let count : List ℕ = bytes_of 4 (length memory) in
    let e_m : number_in count ≡ length memory = number-bytes 4 (length memory) (omega arith) in
    let last : List ℕ → List ℕ → Outcome = end_from room (version ∷ []) (word_bytes machine.regs) (flag_numbers machine.flags) in
    field_cut version_field (version ∷ []) _ _ refl (lit< tt) (version-rule version known) k h λ k₁ h₁.
    field_cut registers_field (word_bytes machine.regs) _ _ lr (lit< tt) refl k₁ h₁ λ k₂ h₂.
    field_cut flags_field (flag_numbers machine.flags) _ _ refl (lit< tt) (ap (λ (t : Bool). demand t BadFlag) (flags-formed machine.flags)) k₂ h₂ λ k₃ h₃.
    field_cut (count_field room) count _ _ (length-bytes 4 (length memory)) (lit< tt) (count-rule memory room some most fits) k₃ h₃ λ k₄ h₄.
    ap (λ (n : ℕ). read_memory (fields_for n) n (take k₄ (memory_fields (fields_for (length memory)) memory ++ field_bytes end_field [])) last) e_m
    ∙ memory-cut (fields_for (length memory)) (length memory) memory (field_bytes end_field []) last refl (fields-enough (length memory)) memory-below
    (end-cut _) k₄ h₄
