-- The running task sleeps, and the first ready one runs. Assumes nothing.
use Rattle.kernel.specs.Moves.{dispatch}
use Rattle.kernel.specs.Tasks.{sleep}
use Rattle.kernel.proofs.Shows.{then}
use Rattle.tasks.proofs.slept.Goals as goal

pub returns : goal.returns
unfolding sleep
returns c = then dispatch (rw c.running-i.ensures at c.restate.ensures) c.dispatch.ensures
