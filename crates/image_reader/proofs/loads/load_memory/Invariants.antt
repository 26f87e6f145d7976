use Prim.Native.Nat.{◌+◌, ◌-◌, ◌*◌, min}
use mathlib.Core.Path.{◌≡◌}
use lib.ListN.{drop}
use lib.Seq.{sets}
use Rattle.image.specs.Format.{words_per_field, fields_for, span_of}
use Rattle.image_reader.specs.Passes.{image_memory}
use Rattle.image_reader.proofs.loads.load_memory.Given as goal

-- where the fields that are left begin, and what is still to be stored
abbrev pub invariant-loop-field : goal.invariant-loop-field
invariant-loop-field l =
    (l.at + span_of (l.words - words_per_field * l.field) ≡ 53 + span_of l.words)
    × (sets l.memory (min (words_per_field * l.field) l.words) (image_memory (fields_for (l.words - words_per_field * l.field)) (l.words - words_per_field * l.field) (drop l.at l.bytes))
    ≡ sets l.initial.memory 0 (image_memory (fields_for l.words) l.words (drop 53 l.bytes)))
