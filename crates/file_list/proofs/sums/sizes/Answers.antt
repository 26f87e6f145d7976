use Prim.Native.Nat.{◌<◌}
use native.Mathlib.Omega.{arith}
use lib.ListN.{length}
use Rattle.traverses.specs.Files.{files_in}
use Rattle.file_list.proofs.Lists.{sizes-goes, sizes-ends}
use Rattle.file_list.proofs.sums.sizes.Goals as goal

pub loop-i-preserved : goal.loop-i-preserved
loop-i-preserved c =
    let fs = files_in c.args.files.now in
    let below : c.loop-i.i < length fs = omega (arith, c.file_count-i-end.ensures, c.loop-i-test.true) in
    (omega arith, sizes-goes fs c.loop-i.i c.file_at.ensures below c.loop-i.sum c.loop-i.invariant.1)

pub returns : goal.returns
returns c =
    let fs = files_in c.args.files.now in
    sizes-ends fs c.loop-i.i (omega (arith, c.file_count-i-end.ensures, c.loop-i-test.false)) c.loop-i.invariant.1
