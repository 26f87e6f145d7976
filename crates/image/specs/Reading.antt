-- Reading an image: the fields are taken one by one, and the first that is not in order is the answer (8 to 15). Document 01,
-- "Image" and "Why a call is turned down".
use Rattle.std.specs.Prelude.{ℕ, zero, suc, ◌+◌, ◌-◌, min, List, [], ◌++◌, eqb, leb, length, get_or, take, drop, Ok, Err}
use Rattle.model.specs.declared.Machine.{Machine}
use Rattle.model.specs.declared.Refusal.{Refusal}
use Rattle.model.specs.declared.Refusal.TheVariants.{CutImage, WrongTag, WrongLength, TrailingBytes}
use Rattle.model.specs.Refusals.{demand, ◌then◌, Verdict}
use Rattle.image.specs.Bytes.{number_in, words_in}
use Rattle.image.specs.Format.{Field, version_field, registers_field, flags_field, count_field, words_field, end_field, words_per_field, fields_for}

-- what comes of reading: a version, a machine and its memory, or why not
pub data Outcome : Type 0 where
  loaded : (version : ℕ) → Machine → (memory : List ℕ) → Outcome
  refused : Refusal → Outcome

infixr 20 ◌▷◌
-- go on unless there is a refusal
abbrev pub ◌▷◌ : Verdict → Outcome → Outcome
Ok u ▷ outcome = outcome
Err why ▷ outcome = refused why

-- whether bytes start with a field of a tag and of the length due: header cut, tag, length, value cut
unfoldable pub header_verdict : (tag due : ℕ) → List ℕ → Verdict
header_verdict tag due bytes =
    demand (leb 3 (length bytes)) CutImage
    then demand (eqb (get_or bytes 0 0) tag) WrongTag
    then demand (eqb (number_in (take 2 (drop 1 bytes))) due) WrongLength
    then demand (leb (3 + due) (length bytes)) CutImage

-- and then its value
unfoldable pub field_verdict : Field → List ℕ → Verdict
field_verdict f bytes = header_verdict f.tag f.due bytes then f.rule (take f.due (drop 3 bytes))

-- take that field, and go on with its value and the bytes after it
unfoldable pub read_field : Field → List ℕ → (List ℕ → List ℕ → Outcome) → Outcome
read_field f bytes next = field_verdict f bytes ▷ next (take f.due (drop 3 bytes)) (drop (3 + f.due) bytes)

-- take so many fields of words, in all so many words
unfoldable pub read_memory : (fields words : ℕ) → List ℕ → (List ℕ → List ℕ → Outcome) → Outcome
read_memory zero words bytes next = next [] bytes
read_memory (suc n) words bytes next =
    read_field (words_field (min words_per_field words)) bytes λ value rest.
    read_memory n (words - words_per_field) rest λ more end.
    next (words_in (min words_per_field words) value ++ more) end

abbrev pub machine_from : (registers flags : List ℕ) → Machine
machine_from registers flags =
    record {
      regs = words_in 8 registers;
      flags = record { carry = eqb (get_or flags 0 0) 1; overflow = eqb (get_or flags 1 0) 1; negative = eqb (get_or flags 2 0) 1; zero = eqb (get_or flags 3 0) 1 };
    }

-- the image in the bytes, for a lent memory of so many words
unfoldable pub read_of : List ℕ → (room : ℕ) → Outcome
read_of bytes room =
    read_field version_field bytes λ version after_version.
    read_field registers_field after_version λ registers after_registers.
    read_field flags_field after_registers λ flags after_flags.
    read_field (count_field room) after_flags λ count after_count.
    read_memory (fields_for (number_in count)) (number_in count) after_count λ memory after_memory.
    read_field end_field after_memory λ nothing rest.
    demand (eqb (length rest) 0) TrailingBytes
    ▷ loaded (number_in version) (machine_from registers flags) memory
