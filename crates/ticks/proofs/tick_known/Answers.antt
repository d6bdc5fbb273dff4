-- The rows of a tick, and then its work. Assumes nothing.
use Rattle.kernel.specs.Calls.{effect}
use Rattle.refusals.proofs.Answers.{behind}
use Rattle.ticks.proofs.tick_known.Goals as goal

pub returns-in_err-every_call : goal.returns-in_err-every_call
unfolding effect
returns-in_err-every_call c = search (behind, c.in_err-every_call.was, c.from_residual.ensures)

pub ticked-requires : goal.ticked-requires
ticked-requires c = search (behind, c.in_ok-every_call.was)

pub returns : goal.returns
unfolding effect
returns c = search (behind, c.in_ok-every_call.was)
