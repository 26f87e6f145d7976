-- Where things lie in an image, as the reader's two passes work it out; `proofs/Passes` shows that this is `read_of`. Document 01,
-- "Image".
use Rattle.std.specs.Prelude.{ℕ, zero, suc, ◌+◌, ◌-◌, ◌*◌, ◌<◌, min, ◌≡◌, List, [], ◌++◌, eqb, length, get_or, take, drop, Ok}
use Rattle.model.specs.declared.Machine.{Machine}
use Rattle.model.specs.declared.Refusal.TheVariants.{TrailingBytes}
use Rattle.model.specs.Refusals.{demand, ◌then◌, Verdict}
use Rattle.image.specs.Bytes.{number_in, words_in}
use Rattle.image.specs.Format.{version_field, registers_field, flags_field, count_field, words_field, end_field, words_per_field, fields_for, span_of}
use Rattle.image.specs.Reading.{field_verdict, machine_from}

-- a byte of a slice, 0 past its end
pub record ByteAt (bytes : List ℕ) (at r : ℕ) : Type 0 where
  pub is : r ≡ get_or bytes at 0
  pub small : r < 256

-- two bytes as a number, each 0 past the end
pub record PairAt (bytes : List ℕ) (at r : ℕ) : Type 0 where
  pub is : r ≡ number_in (take 2 (drop at bytes))
  pub small : r < 65_536

-- ---- what is there

-- Where the first fields begin, and their values, each 3 bytes further on:
--     version      0, value of 1 byte at 3
--     registers    4, value of 32 bytes at 7
--     flags        39, value of 4 bytes at 42
--     M            46, value of 4 bytes at 49
--     words        53, the first field of words

abbrev pub image_version : List ℕ → ℕ
image_version bytes = number_in (take 1 (drop 3 bytes))

abbrev pub image_machine : List ℕ → Machine
image_machine bytes = machine_from (drop 7 bytes) (drop 42 bytes)

-- M
abbrev pub image_count : List ℕ → ℕ
image_count bytes = number_in (take 4 (drop 49 bytes))

unfoldable pub image_memory : (fields words : ℕ) → List ℕ → List ℕ
image_memory zero words bytes = []
image_memory (suc n) words bytes =
    words_in (min words_per_field words) (drop 3 bytes) ++ image_memory n (words - words_per_field) (drop (3 + 4 * min words_per_field words) bytes)

-- ---- whether it is in order

unfoldable pub head_verdict : List ℕ → (room : ℕ) → Verdict
head_verdict bytes room =
    field_verdict version_field bytes
    then field_verdict registers_field (drop 4 bytes)
    then field_verdict flags_field (drop 39 bytes)
    then field_verdict (count_field room) (drop 46 bytes)

unfoldable pub memory_verdict : (fields words : ℕ) → List ℕ → Verdict
memory_verdict zero words bytes = Ok tt
memory_verdict (suc n) words bytes =
    field_verdict (words_field (min words_per_field words)) bytes
    then memory_verdict n (words - words_per_field) (drop (3 + 4 * min words_per_field words) bytes)

unfoldable pub end_verdict : List ℕ → Verdict
end_verdict bytes = field_verdict end_field bytes then demand (eqb (length (drop 3 bytes)) 0) TrailingBytes

-- the fields of words, from a place on, and the end
unfoldable pub tail_verdict : (words at : ℕ) → List ℕ → Verdict
tail_verdict words at bytes = memory_verdict (fields_for words) words (drop at bytes) then end_verdict (drop (at + span_of words) bytes)

abbrev pub image_verdict : List ℕ → (room : ℕ) → Verdict
image_verdict bytes room = head_verdict bytes room then tail_verdict (image_count bytes) 53 bytes
