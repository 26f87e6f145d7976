use Rattle.traverse.proofs.Walking.{file-fits, goes}
use Rattle.traverse.proofs.walk.next.Goals as goal

pub one_file-e-requires : goal.one_file-e-requires
one_file-e-requires c = file-fits _ _ _ _ _ c.requires _ c.file_at-f.ensures c.begin-pairs.auto.map

pub marked-undone-requires : goal.marked-undone-requires
marked-undone-requires c = (c.requires.number, c.requires.mask)

pub returns : goal.returns
returns c = goes _ _ _ _ _ c.requires _ c.file_at-f.ensures _ _ _ _ c.begin-pairs.ensures.0 c.begin-pairs.ensures.1 c.one_file-e.ensures c.marked-undone.ensures c.is_full.ensures
