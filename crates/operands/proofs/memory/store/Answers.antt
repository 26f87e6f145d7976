use Rattle.std.proofs.Common.{sym}
use lib.Seq.{set_out}
use Rattle.operands.proofs.memory.store.Goals as goal

pub returns-else-i-memory : goal.returns-else-i-memory
returns-else-i-memory c = sym (set_out c.args.memory.now c.args.i c.args.x c.if-i-memory.false)
