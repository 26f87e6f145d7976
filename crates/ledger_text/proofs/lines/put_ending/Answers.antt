use Rattle.ledger_lines.specs.Lines.{ending_text}
use Rattle.ledger_text.proofs.Parts.{◌⊳◌}
use Rattle.ledger_text.proofs.lines.put_ending.Goals as goal

pub returns : goal.returns
unfolding ending_text
returns c = (rw c.word_of.ensures at c.text.ensures) ⊳ c.decimal.ensures.text ⊳ c.decimal-2.ensures.text
