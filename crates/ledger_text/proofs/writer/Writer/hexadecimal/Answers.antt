use mathlib.Core.Path.{refl}
use native.Mathlib.Omega.{arith}
use Rattle.text.proofs.Figures.{length_digits}
use Rattle.ledger_text.proofs.Parts.{figure_put}
use Rattle.ledger_text.proofs.writer.Writer.hexadecimal.Goals as goal

pub overflow_add-self : goal.overflow_add-self
overflow_add-self c = omega (arith, c.requires, c.put_hexadecimal.ensures.size, length_digits 16 8 c.args.word)

pub text-requires : goal.text-requires
text-requires c = omega (arith, c.requires, c.put_hexadecimal.ensures.size, length_digits 16 8 c.args.word)

pub returns-clause-text : goal.returns-clause-text
returns-clause-text c = figure_put c.put_hexadecimal.ensures refl refl c.text.ensures

pub returns-clause-near : goal.returns-clause-near
returns-clause-near c =
    omega (arith, c.text.ensures.put.place, c.put_hexadecimal.ensures.size, length_digits 16 8 c.args.word)
