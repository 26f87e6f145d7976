use mathlib.Core.Path.{refl}
use native.Mathlib.Omega.{arith}
use Rattle.text.proofs.Figures.{decimal-short}
use Rattle.ledger_text.proofs.Parts.{figure_put}
use Rattle.ledger_text.proofs.writer.Writer.decimal.Goals as goal

pub overflow_add-self : goal.overflow_add-self
overflow_add-self c = omega (arith, c.requires, c.put_decimal.ensures.size, decimal-short c.ranges.n.fits)

pub text-requires : goal.text-requires
text-requires c = omega (arith, c.requires, c.put_decimal.ensures.size, decimal-short c.ranges.n.fits)

pub returns-clause-text : goal.returns-clause-text
returns-clause-text c = figure_put c.put_decimal.ensures refl refl c.text.ensures

pub returns-clause-near : goal.returns-clause-near
returns-clause-near c = omega (arith, c.text.ensures.put.place, c.put_decimal.ensures.size, decimal-short c.ranges.n.fits)
