-- `read_of` in stages, last first: each is the reading from one field on.
use Prim.Native.Nat.{ℕ}
use mathlib.Core.Path.{◌≡◌, refl}
use mathlib.Core.List.{List}
use lib.Dec.{eqb}
use lib.ListN.{length}
use Rattle.model.specs.declared.Refusal.TheVariants.{TrailingBytes}
use Rattle.model.specs.Refusals.{demand}
use Rattle.image.specs.Bytes.{number_in}
use Rattle.image.specs.Format.{version_field, registers_field, flags_field, count_field, end_field, fields_for}
use Rattle.image.specs.Reading.{Outcome, loaded, ◌▷◌, read_field, read_memory, read_of, machine_from}

module _ (room : ℕ) where
  abbrev pub end_from : (version registers flags memory bytes : List ℕ) → Outcome
  end_from version registers flags memory bytes =
      read_field end_field bytes λ nothing rest.
      demand (eqb (length rest) 0) TrailingBytes
      ▷ loaded (number_in version) (machine_from registers flags) memory

  abbrev pub memory_from : (version registers flags count bytes : List ℕ) → Outcome
  memory_from version registers flags count bytes = read_memory (fields_for (number_in count)) (number_in count) bytes (end_from version registers flags)

  abbrev pub count_from : (version registers flags bytes : List ℕ) → Outcome
  count_from version registers flags bytes = read_field (count_field room) bytes (memory_from version registers flags)

  abbrev pub flags_from : (version registers bytes : List ℕ) → Outcome
  flags_from version registers bytes = read_field flags_field bytes (count_from version registers)

  abbrev pub registers_from : (version bytes : List ℕ) → Outcome
  registers_from version bytes = read_field registers_field bytes (flags_from version)

  pub in_stages : (bytes : List ℕ) → read_of bytes room ≡ read_field version_field bytes registers_from
  unfolding read_of
  in_stages bytes = refl
