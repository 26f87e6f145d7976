use Prim.Native.Nat.{◌-◌, ◌*◌}
use mathlib.Core.Path.{◌≡◌}
use lib.ListN.{length, drop}
use lib.Seq.{sets}
use Rattle.image.specs.Bytes.{words_in}
use Rattle.image_reader.proofs.bytes.get_words.Given as goal

-- what is still to be stored
abbrev pub invariant-loop-i : goal.invariant-loop-i
invariant-loop-i l = sets l.out l.i (words_in (length l.initial.out - l.i) (drop (4 * l.i) l.bytes)) ≡ words_in (length l.initial.out) l.bytes
