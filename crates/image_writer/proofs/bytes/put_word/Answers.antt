use borrow.Author.Rules.{rules}
use Rattle.image.proofs.Parts.{four_low_first}
use Rattle.image_writer.proofs.bytes.put_word.Goals as goal

pub returns : goal.returns
returns c = search (rules, four_low_first)
