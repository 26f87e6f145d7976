use Rattle.std.proofs.Common.{rules}
use Rattle.ledger_lines.specs.Lines.{refused_text}
use Rattle.ledger_text.proofs.Parts.{◌⊳◌, written}
use Rattle.ledger_text.proofs.lines.put_refused.Goals as goal

pub returns : goal.returns
unfolding refused_text
returns c =
    written c.new-writer.ensures.start
    (rw c.refusal_number.ensures at (c.text.ensures ⊳ c.decimal.ensures.text))
    (search rules)
    c.size.ensures
