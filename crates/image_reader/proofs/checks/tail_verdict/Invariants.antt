use Prim.Native.Nat.{◌+◌, ◌-◌, ◌*◌}
use mathlib.Core.Path.{◌≡◌}
use Rattle.image.specs.Format.{words_per_field, span_of}
use Rattle.image_reader.specs.Passes.{tail_verdict}
use Rattle.image_reader.proofs.checks.tail_verdict.Given as goal

-- where the fields that are left begin, and the verdict on them
abbrev pub invariant-loop-field : goal.invariant-loop-field
invariant-loop-field l =
    (l.at + span_of (l.words - words_per_field * l.field) ≡ 53 + span_of l.words)
    × (tail_verdict (l.words - words_per_field * l.field) l.at l.bytes ≡ tail_verdict l.words 53 l.bytes)
