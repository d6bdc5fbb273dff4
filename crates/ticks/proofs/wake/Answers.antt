-- An IDLE task wakes with its next deadline. Assumes nothing.
use Rattle.kernel.specs.Tick.{wake}
use Rattle.ticks.proofs.wake.Goals as goal

pub returns : goal.returns
unfolding wake
returns c = c.renew.ensures
