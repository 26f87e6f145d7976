use Rattle.ledger_lines.specs.Lines.{line}
use Rattle.ledger_text.proofs.Parts.{◌⊳◌}
use Rattle.ledger_text.proofs.lines.put_line.Goals as goal

pub returns : goal.returns
unfolding line
returns c =
    c.decimal.ensures.text ⊳ c.hexadecimal.ensures.text ⊳ c.hexadecimal-2.ensures.text ⊳ c.decimal-2.ensures.text
    ⊳ c.flags.ensures
