use mathlib.Core.Path.{sym, ◌∙◌}
use native.Mathlib.Omega.{arith}
use Rattle.text.specs.Text.{digit_count}
use Rattle.text.proofs.Figures.{length_digits, places-le}
use Rattle.text.proofs.put_decimal.Goals as goal

pub put_digits-requires : goal.put_digits-requires
put_digits-requires c =
    let n = c.args.n in
    omega (arith, places-le n 19 n (omega (arith, c.ranges.n)), c.count_digits-count.ensures)

pub returns : goal.returns
returns c =
    let n = c.args.n in
    let count = c.count_digits-count.ensures in
    record {
      buffer = rw count at c.put_digits.ensures;
      size = count ∙ sym (length_digits 10 (digit_count n n) n);
    }
