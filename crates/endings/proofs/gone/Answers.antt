-- The running task ends, and the first ready one runs. Assumes nothing.
use Rattle.kernel.specs.Moves.{dispatch}
use Rattle.kernel.specs.Tasks.{end}
use Rattle.kernel.proofs.Shows.{then}
use Rattle.endings.proofs.gone.Goals as goal

pub returns : goal.returns
unfolding end
returns c = then dispatch (rw c.running-i.ensures at c.finish.ensures) c.dispatch.ensures
