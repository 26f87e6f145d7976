use mathlib.Core.Path.{◌∙◌}
use Rattle.traverse.proofs.Filing.{file-full, file-ran}
use Rattle.traverse.proofs.file.one_file.Goals as goal

pub returns-then-n : goal.returns-then-n
returns-then-n c = file-full _ _ _ _ _ _ _ _ c.lay-n.ensures c.if-n.true c.undo.ensures

pub shape_of-memory : goal.shape_of-memory
shape_of-memory c = c.end.auto.memory ∙ c.engine-e.auto.memory ∙ c.lay-n.auto.memory

pub shape_of-journal : goal.shape_of-journal
shape_of-journal c = c.engine-e.auto.journal ∙ c.lay-n.auto.journal

pub shape_of-map : goal.shape_of-map
shape_of-map c = c.engine-e.auto.map ∙ c.lay-n.auto.map

pub returns : goal.returns
returns c = file-ran _ _ _ _ _ _ _ _ c.lay-n.ensures c.if-n.false c.entered-start.ensures c.engine-e.ensures c.end.ensures
