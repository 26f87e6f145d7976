-- The writer and the reader as calls: what is refused (1, 2 and 7 to 15), what is answered, and every lent byte and word
-- afterwards. Document 01, "Image" and "Why a call is turned down"; CR 1.
use Rattle.model.specs.declared.Refusal.{Refusal}
use Rattle.image.specs.declared.LoadedImage.{LoadedImage}
use Rattle.std.specs.Prelude.{ℕ, ◌≡◌, List, leb, length, replicate, Ok, Err, Result}
use Rattle.model.specs.declared.Machine.{Machine}
use Rattle.model.specs.declared.Refusal.TheVariants.{ShortOutput, WrongVersion}
use Rattle.model.specs.Words.{overlay}
use Rattle.model.specs.Interpreter.{machine_with}
use Rattle.model.specs.Packed.{no_flags}
use Rattle.model.specs.Refusals.{refusal_number, verdict_number, left_by, demand, ◌then◌, memory_fits, Verdict}
use Rattle.image.specs.declared.ReadResult.{ReadResult}
use Rattle.image.specs.Format.{is_version, image_of}
use Rattle.image.specs.Reading.{Outcome, loaded, refused, read_of}

-- ---- the writer

-- 1, 2, 7, 11
unfoldable pub write_verdict : (memory : List ℕ) (version : ℕ) (image out : List ℕ) → Verdict
write_verdict memory version image out =
    memory_fits memory then demand (leb (length image) (length out)) ShortOutput then demand (is_version version) WrongVersion

abbrev pub write_result : Verdict → (image : List ℕ) → Result ℕ Refusal
write_result (Ok u) image = Ok (length image)
write_result (Err why) image = Err why

-- document 01's number of an answer, 0 for one that is carried out
abbrev pub write_number : Result ℕ Refusal → ℕ
write_number (Ok size) = 0
write_number (Err why) = refusal_number why

-- how many bytes were written: none by a refused write
abbrev pub verdict_size : Verdict → (image : List ℕ) → ℕ
verdict_size (Ok u) image = length image
verdict_size (Err why) image = 0

abbrev pub write_size : Result ℕ Refusal → ℕ
write_size (Ok size) = size
write_size (Err why) = 0

-- what a write returns, and the bytes that it leaves
unfoldable pub write_returned : (memory : List ℕ) → Machine → (version : ℕ) → (out : List ℕ) → Result ℕ Refusal
write_returned memory machine version out =
    let image = image_of version machine memory in
    write_result (write_verdict memory version image out) image

unfoldable pub write_bytes : (memory : List ℕ) → Machine → (version : ℕ) → (out : List ℕ) → List ℕ
write_bytes memory machine version out =
    let image = image_of version machine memory in
    left_by (write_verdict memory version image out) (overlay image out) out

pub record Writes (memory : List ℕ) (machine : Machine) (version : ℕ) (out out' : List ℕ) (r : Result ℕ Refusal) : Type 0 where
  pub result : r ≡ write_returned memory machine version out
  pub bytes : out' ≡ write_bytes memory machine version out
  pub number : write_number r ≡ verdict_number (write_verdict memory version (image_of version machine memory) out)
  pub size : write_size r ≡ verdict_size (write_verdict memory version (image_of version machine memory) out) (image_of version machine memory)

-- ---- the reader

-- a refused read returns registers 0 and flags false
abbrev pub cleared_machine : Machine
cleared_machine = machine_with (replicate 8 0) no_flags

abbrev pub read_result : Outcome → ReadResult
read_result (loaded version machine words) = record { answer = Ok (record { words = length words; version = version }); machine = machine }
read_result (refused why) = record { answer = Err why; machine = cleared_machine }

abbrev pub outcome_words : Outcome → (memory : List ℕ) → List ℕ
outcome_words (loaded version machine words) memory = overlay words memory
outcome_words (refused why) memory = memory

-- 8 to 15, 0 for an image that is loaded
abbrev pub outcome_number : Outcome → ℕ
outcome_number (loaded version machine words) = 0
outcome_number (refused why) = refusal_number why

abbrev pub read_number : Result LoadedImage Refusal → ℕ
read_number (Ok l) = 0
read_number (Err why) = refusal_number why

-- how many words were loaded: none by a refused read
abbrev pub outcome_count : Outcome → ℕ
outcome_count (loaded version machine words) = length words
outcome_count (refused why) = 0

abbrev pub read_count : Result LoadedImage Refusal → ℕ
read_count (Ok l) = l.words
read_count (Err why) = 0

-- which version was read: 0 by a refused read
abbrev pub outcome_version : Outcome → ℕ
outcome_version (loaded version machine words) = version
outcome_version (refused why) = 0

abbrev pub read_version : Result LoadedImage Refusal → ℕ
read_version (Ok l) = l.version
read_version (Err why) = 0

-- what a read returns, and the memory that it leaves
unfoldable pub read_returned : (bytes memory : List ℕ) → ReadResult
read_returned bytes memory = read_result (read_of bytes (length memory))

unfoldable pub read_words : (bytes memory : List ℕ) → List ℕ
read_words bytes memory = outcome_words (read_of bytes (length memory)) memory

pub record Reads (bytes memory memory' : List ℕ) (r : ReadResult) : Type 0 where
  pub result : r ≡ read_returned bytes memory
  pub words : memory' ≡ read_words bytes memory
  pub number : read_number r.answer ≡ outcome_number (read_of bytes (length memory))
  pub count : read_count r.answer ≡ outcome_count (read_of bytes (length memory))
  pub version : read_version r.answer ≡ outcome_version (read_of bytes (length memory))
