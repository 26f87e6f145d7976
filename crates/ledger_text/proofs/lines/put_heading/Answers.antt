use Rattle.ledger_lines.specs.Lines.{heading}
use Rattle.ledger_text.proofs.lines.put_heading.Goals as goal

pub returns : goal.returns
unfolding heading
returns c = c.text.ensures
