use mathlib.Core.Path.{refl, sym}
use native.Mathlib.Omega.{arith}
use Rattle.model.proofs.Stores.{sets-out}
use Rattle.text.proofs.Fits.{copied}
use Rattle.text.proofs.put_text.Goals as goal

pub returns-then-at-out : goal.returns-then-at-out
returns-then-at-out c =
    let a = c.args in
    record { buffer = copied a.out.now a.at a.text.now _ c.min-fits.ensures (omega arith) c.copy_from_slice.ensures.after; size = refl }

pub returns-else-at-out : goal.returns-else-at-out
returns-else-at-out c =
    let args = c.args in
    record { buffer = sym (sets-out args.out.now args.at args.text.now c.if-at-out.false); size = refl }
