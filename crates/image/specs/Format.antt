-- What an image is: its fields, what their values must be (11 to 14), and its bytes. Document 01, "Image" and "Why a call is
-- turned down"; CR 1.
use Rattle.std.specs.Prelude.{ℕ, zero, suc, ◌+◌, ◌-◌, ◌*◌, ◌/◌, Bool, ◌&&◌, ◌||◌, List, [], ◌∷◌, ◌++◌, eqb, leb, length, get_or, take, drop, Ok}
use Rattle.model.specs.declared.Machine.{Machine}
use Rattle.model.specs.declared.Refusal.TheVariants.{WrongVersion, BadFlag, BadWordCount, ShortMemory}
use Rattle.model.specs.Packed.{flag_numbers}
use Rattle.model.specs.Refusals.{demand, ◌then◌, most_words, Verdict}
use Rattle.image.specs.Bytes.{bytes_of, number_in, word_bytes}

-- ---- a field

-- its tag, the length due, and what its value must be
pub record Field : Type 0 where
  pub tag : ℕ
  pub due : ℕ
  pub rule : (value : List ℕ) → Verdict

-- one-byte tag, two-byte length, value
unfoldable pub field_bytes : Field → List ℕ → List ℕ
field_bytes f value = f.tag ∷ (bytes_of 2 (length value) ++ value)

-- ---- the fields

-- CR 1: the versions of an image, which differ in their rule for traverses alone
abbrev pub is_version : ℕ → Bool
is_version version = eqb version 1 || eqb version 2

-- a byte each for C, V, N, Z, 0 or 1
abbrev pub flags_formed : List ℕ → Bool
flags_formed flags = leb (get_or flags 0 0) 1 && leb (get_or flags 1 0) 1 && leb (get_or flags 2 0) 1 && leb (get_or flags 3 0) 1

-- M is neither 0 nor above 16,777,216
abbrev pub count_formed : ℕ → Bool
count_formed words = leb 1 words && leb words most_words

abbrev pub version_field : Field
version_field = record { tag = 0x01; due = 1; rule = λ value. demand (is_version (number_in value)) WrongVersion }

abbrev pub registers_field : Field
registers_field = record { tag = 0x02; due = 32; rule = λ value. Ok tt }

abbrev pub flags_field : Field
flags_field = record { tag = 0x03; due = 4; rule = λ value. demand (flags_formed value) BadFlag }

-- M, for a lent memory of so many words
abbrev pub count_field : (room : ℕ) → Field
count_field room =
    record {
      tag = 0x04;
      due = 4;
      rule = λ value. demand (count_formed (number_in value)) BadWordCount then demand (leb (number_in value) room) ShortMemory;
    }

-- a field of so many words
abbrev pub words_field : ℕ → Field
words_field words = record { tag = 0x05; due = 4 * words; rule = λ value. Ok tt }

abbrev pub end_field : Field
end_field = record { tag = 0xFF; due = 0; rule = λ value. Ok tt }

-- ---- the words of a memory

abbrev pub words_per_field : ℕ
words_per_field = 1_024

-- how many fields so many words take
unfoldable pub fields_for : ℕ → ℕ
fields_for words = (words + (words_per_field - 1)) / words_per_field

-- how many bytes so many words take, with the headers of their fields
abbrev pub span_of : ℕ → ℕ
span_of words = 4 * words + 3 * fields_for words

-- so many fields of words, the last with what remains
unfoldable pub memory_fields : ℕ → List ℕ → List ℕ
memory_fields zero words = []
memory_fields (suc n) words =
    field_bytes (words_field (length (take words_per_field words))) (word_bytes (take words_per_field words))
    ++ memory_fields n (drop words_per_field words)

-- ---- the image

unfoldable pub image_of : (version : ℕ) → Machine → (memory : List ℕ) → List ℕ
image_of version machine memory =
    field_bytes version_field (version ∷ [])
    ++ (field_bytes registers_field (word_bytes machine.regs)
    ++ (field_bytes flags_field (flag_numbers machine.flags)
    ++ (field_bytes (count_field (length memory)) (bytes_of 4 (length memory))
    ++ (memory_fields (fields_for (length memory)) memory
    ++ field_bytes end_field []))))
