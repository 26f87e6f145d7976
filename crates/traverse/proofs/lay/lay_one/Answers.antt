use Rattle.traverse.proofs.Laying.{lays_none, lays_word}
use Rattle.traverse.proofs.lay.lay_one.Goals as goal

pub returns-then-full : goal.returns-then-full
returns-then-full c = lays_none _ _ _ _ _ _ c.load.ensures c.note-full.ensures c.if-full.true

pub returns : goal.returns
returns c = lays_word _ _ _ _ _ _ c.load.ensures c.note-full.ensures c.if-full.false c.store.ensures
