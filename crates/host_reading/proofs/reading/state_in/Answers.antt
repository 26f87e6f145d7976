use Rattle.host_reading.proofs.Starts.{state-from}
use Rattle.host_reading.proofs.reading.state_in.Goals as goal

pub returns : goal.returns
returns c = state-from _ _ c.machine_in-m.ensures _ c.row_in.ensures _ c.left_in.ensures
