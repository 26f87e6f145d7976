use mathlib.Core.Path.{sym}
use Rattle.file_list.proofs.Lists.{files-length}
use Rattle.file_list.proofs.file_count.Goals as goal

pub returns : goal.returns
returns c = sym (files-length _)
