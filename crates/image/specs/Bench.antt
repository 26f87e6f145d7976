-- The worked images of one word: 63 bytes load, 62 give 8, 64 give 15. Document 01, "Bench words". CR 1: the versions.
use Rattle.std.specs.Prelude.{ℕ, List, [], ◌∷◌, ◌++◌, take, replicate}
use Rattle.image.specs.Format.{image_of}
use Rattle.image.specs.Reading.{read_of}
use Rattle.image.specs.Calls.{write_number, write_returned, cleared_machine, outcome_number}

abbrev pub smallest : List ℕ
smallest = image_of 1 cleared_machine (0x0001_3C21 ∷ [])

-- the numbers for the image, for its first 62 bytes, and for the image with a byte after it
abbrev pub bench_numbers : List ℕ
bench_numbers = outcome_number (read_of smallest 1) ∷ outcome_number (read_of (take 62 smallest) 1) ∷ outcome_number (read_of (smallest ++ 0 ∷ []) 1) ∷ []

-- CR 1: the numbers for images of versions 0 to 3, read
abbrev pub version_numbers : List ℕ
version_numbers = number 0 ∷ number 1 ∷ number 2 ∷ number 3 ∷ []
  where
    number : ℕ → ℕ
    number version = outcome_number (read_of (image_of version cleared_machine (0 ∷ [])) 1)

-- and written, with room for 63 bytes and for 62
abbrev pub written_numbers : (places : ℕ) → List ℕ
written_numbers places = number 0 ∷ number 1 ∷ number 2 ∷ number 3 ∷ []
  where
    number : ℕ → ℕ
    number version = write_number (write_returned (0 ∷ []) cleared_machine version (replicate places 0))
