use mathlib.Core.Path.{sym}
use Rattle.text.proofs.Figures.{length_digits}
use Rattle.text.proofs.put_hexadecimal.Goals as goal

pub returns : goal.returns
returns c =
    record {
      buffer = c.put_digits.ensures;
      size = sym (length_digits 16 8 c.args.word);
    }
