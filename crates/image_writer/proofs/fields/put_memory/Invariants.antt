use Prim.Native.Nat.{◌+◌, ◌≤◌}
use mathlib.Core.Path.{◌≡◌}
use lib.ListN.{length}
use lib.Seq.{sets}
use Rattle.std.specs.Slice.Iter.{chunks_rest, chunks_size}
use Rattle.image.specs.Format.{words_per_field, fields_for, span_of, memory_fields}
use Rattle.image_writer.proofs.fields.put_memory.Given as goal

-- what is still to be stored, and that it fits
abbrev pub invariant-loop-words : goal.invariant-loop-words
invariant-loop-words l =
    goal.iterator-loop-words.can_next l.words-iterator
    × goal.iterator-loop-words.is_finite l.words-iterator
    × (chunks_size l.words-iterator ≡ words_per_field)
    × (l.at + span_of (length (chunks_rest l.words-iterator)) ≤ length l.initial.out)
    × (sets l.out l.at (memory_fields (fields_for (length (chunks_rest l.words-iterator))) (chunks_rest l.words-iterator))
    ≡ sets l.initial.out l.start (memory_fields (fields_for (length l.memory)) l.memory))
