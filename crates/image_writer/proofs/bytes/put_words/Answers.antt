use Prim.Native.Nat.{ℕ, ◌+◌, ◌*◌}
use mathlib.Core.Path.{sym, ap, ◌∙◌}
use native.Mathlib.Omega.{arith}
use lib.ListN.{drop, get_or, drop_of_length-le}
use lib.Seq.{sets}
use Rattle.model.proofs.Stores.{store_step, store-end}
use Rattle.image.specs.Bytes.{bytes_of, word_bytes}
use Rattle.image.proofs.Bytes.{length-bytes, next_word}
use Rattle.image_writer.proofs.bytes.put_words.Goals as goal

pub loop-i-preserved : goal.loop-i-preserved
loop-i-preserved c =
    let a = c.args in
    let l = c.loop-i in
    let at : ℕ = a.at + 4 * l.i in
    let word : ℕ = get_or a.words.now l.i 0 in
    store_step l.out _ at _ (bytes_of 4 word) (word_bytes (drop (l.i + 1) a.words.now)) _ c.put_word.ensures (omega (arith, length-bytes 4 word))
    (ap (sets l.out at) (sym (next_word a.words.now l.i (omega arith))) ∙ l.invariant)

pub returns : goal.returns
unfolding word_bytes
returns c =
    let l = c.loop-i in
    let words = c.args.words.now in
    store-end l.out _ _ _ (ap word_bytes (drop_of_length-le words (omega arith))) l.invariant
