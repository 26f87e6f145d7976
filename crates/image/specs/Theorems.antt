-- What holds of images and of the two calls: an image loads into the machine it was written from, and only what the writer can
-- produce is accepted (demand 2), in either version (CR 1). Document 01, "Image" and "Why a call is turned down".
use Rattle.model.specs.declared.Refusal.{Refusal}
use Rattle.image.specs.declared.LoadedImage.{LoadedImage}
use Rattle.std.specs.Prelude.{ℕ, ◌+◌, ◌*◌, ◌^◌, ◌≤◌, ◌<◌, ◌≡◌, true, List, ◌++◌, eqb, leb, length, take, Ok, Result}
use Rattle.model.specs.declared.Machine.{Machine}
use Rattle.model.specs.declared.Refusal.TheVariants.{CutImage, WrongVersion, BadWordCount, ShortMemory, TrailingBytes}
use Rattle.model.specs.Words.{overlay}
use Rattle.model.specs.Refusals.{demand, ◌then◌, most_words}
use Rattle.image.specs.declared.ReadResult.{ReadResult}
use Rattle.image.specs.Bytes.{Below}
use Rattle.image.specs.Format.{is_version, count_formed, words_per_field, fields_for, image_of}
use Rattle.image.specs.Reading.{loaded, refused, ◌▷◌, read_of}
use Rattle.image.specs.Calls.{Writes, Reads}

-- ---- images

-- an image is read back as exactly what it was made of
abbrev pub RoundTrip : Type 0
RoundTrip =
    (version : ℕ) (machine : Machine) (memory : List ℕ) (room : ℕ)
    → is_version version ≡ true
    → length machine.regs ≡ 8 → Below (2 ^ 32) machine.regs
    → 1 ≤ length memory → length memory ≤ most_words → Below (2 ^ 32) memory
    → length memory ≤ room
    → read_of (image_of version machine memory) room ≡ loaded version machine memory

-- whatever is read is the image of what was loaded
abbrev pub OnlyImages : Type 0
OnlyImages =
    (room version : ℕ) (machine : Machine) (memory bytes : List ℕ)
    → Below 256 bytes
    → read_of bytes room ≡ loaded version machine memory
    → bytes ≡ image_of version machine memory

-- what is loaded is a memory that a run and the writer take
abbrev pub LoadedFits : Type 0
LoadedFits =
    (room version : ℕ) (machine : Machine) (memory bytes : List ℕ)
    → read_of bytes room ≡ loaded version machine memory
    → (0 < length memory) × (length memory ≤ most_words)

-- bytes that begin with an image: of 11, 13, 14 and 15 the first that applies is the answer, and if none does they load
abbrev pub ImageRead : Type 0
ImageRead =
    (version : ℕ) (machine : Machine) (memory rest : List ℕ) (room : ℕ)
    → length machine.regs ≡ 8 → Below (2 ^ 32) machine.regs
    → length memory < 2 ^ 32 → Below (2 ^ 32) memory
    → read_of (image_of version machine memory ++ rest) room
    ≡ ((demand (is_version version) WrongVersion
    then demand (count_formed (length memory)) BadWordCount
    then demand (leb (length memory) room) ShortMemory
    then demand (eqb (length rest) 0) TrailingBytes)
    ▷ loaded version machine memory)

-- an image of which bytes are missing at the end gives 8
abbrev pub Cut : Type 0
Cut =
    (version : ℕ) (machine : Machine) (memory : List ℕ) (room : ℕ)
    → is_version version ≡ true
    → length machine.regs ≡ 8
    → 1 ≤ length memory → length memory ≤ most_words → Below (2 ^ 32) memory
    → length memory ≤ room
    → (k : ℕ) → k < length (image_of version machine memory)
    → read_of (take k (image_of version machine memory)) room ≡ refused CutImage

-- every field of words has 1,024, but the last has the 1 to 1,024 that remain
abbrev pub LastField : Type 0
LastField =
    (words : ℕ)
    → 1 ≤ words
    → (words_per_field * fields_for words < words + words_per_field) × (words ≤ words_per_field * fields_for words)

-- how long an image is
abbrev pub Size : Type 0
Size =
    (version : ℕ) (machine : Machine) (memory : List ℕ)
    → length machine.regs ≡ 8
    → length (image_of version machine memory) ≡ 56 + 4 * length memory + 3 * fields_for (length memory)

-- ---- the two calls

-- what the writer wrote, the reader loads as that version into the machine it was written from, and it leaves the words past it alone
abbrev pub ReadBack : Type 0
ReadBack =
    (memory : List ℕ) (machine : Machine) (version : ℕ) (out out' : List ℕ) (n : ℕ) (room room' : List ℕ) (r : ReadResult)
    → length machine.regs ≡ 8 → Below (2 ^ 32) machine.regs → Below (2 ^ 32) memory
    → Writes memory machine version out out' (Ok n)
    → length memory ≤ length room
    → Reads (take n out') room room' r
    → (r ≡ record { answer = Ok (record { words = length memory; version = version }); machine = machine }) × (room' ≡ overlay memory room)

-- what the reader loaded, the writer writes as the bytes that were read: it can produce all that is accepted
abbrev pub WriteBack : Type 0
WriteBack =
    (bytes room room' : List ℕ) (r : ReadResult) (n version : ℕ) (out out' : List ℕ) (w : Result ℕ Refusal)
    → Below 256 bytes
    → Reads bytes room room' r
    → r.answer ≡ Ok (record { words = n; version = version })
    → length bytes ≤ length out
    → Writes (take n room') r.machine version out out' w
    → (w ≡ Ok (length bytes)) × (out' ≡ overlay bytes out)
