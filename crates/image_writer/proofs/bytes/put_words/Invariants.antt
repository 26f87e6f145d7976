use Prim.Native.Nat.{◌+◌, ◌*◌}
use mathlib.Core.Path.{◌≡◌}
use lib.ListN.{drop}
use lib.Seq.{sets}
use Rattle.image.specs.Bytes.{word_bytes}
use Rattle.image_writer.proofs.bytes.put_words.Given as goal

-- what is still to be stored
abbrev pub invariant-loop-i : goal.invariant-loop-i
invariant-loop-i l = sets l.out (l.at + 4 * l.i) (word_bytes (drop l.i l.words)) ≡ sets l.initial.out l.at (word_bytes l.words)
