-- The bench words on images hold: antt computes them.
use mathlib.Core.Path.{◌≡◌, refl}
use mathlib.Core.List.{[], ◌∷◌, ◌++◌}
use lib.ListN.{length}
use Rattle.image.specs.Bytes.{bytes_of, number_in, word_bytes, words_in}
use Rattle.image.specs.Format.{fields_for, field_bytes, memory_fields, image_of}
use Rattle.image.specs.Reading.{header_verdict, field_verdict, read_field, read_memory, read_of}
use Rattle.image.specs.Calls.{write_verdict, write_returned}
use Rattle.image.specs.Bench.{smallest, bench_numbers, version_numbers, written_numbers}

pub sixty_three : length smallest ≡ 63
unfolding bytes_of word_bytes fields_for field_bytes memory_fields image_of
sixty_three = refl

pub bench : bench_numbers ≡ 0 ∷ 8 ∷ 15 ∷ []
unfolding bytes_of number_in word_bytes words_in fields_for field_bytes memory_fields image_of header_verdict field_verdict read_field read_memory read_of
bench = refl

pub versions : version_numbers ≡ 11 ∷ 0 ∷ 0 ∷ 11 ∷ []
unfolding bytes_of number_in word_bytes words_in fields_for field_bytes memory_fields image_of header_verdict field_verdict read_field read_memory read_of
versions = refl

pub writings : written_numbers 63 ++ written_numbers 62 ≡ 11 ∷ 0 ∷ 0 ∷ 11 ∷ 7 ∷ 7 ∷ 7 ∷ 7 ∷ []
unfolding bytes_of word_bytes fields_for field_bytes memory_fields image_of write_verdict write_returned
writings = refl
