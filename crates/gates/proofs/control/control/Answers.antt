use mathlib.Core.Bool.{xor}
use Rattle.gates.proofs.control.control.Goals as goal

pub returns : goal.returns
unfolding xor
returns c = simp (c.selector-4.ensures, c.selector-3.ensures, c.selector-2.ensures, c.selector.ensures)
