-- The rows of cycle, and then its work. Assumes nothing.
use Rattle.kernel.specs.Calls.{effect}
use Rattle.refusals.proofs.Answers.{behind}
use Rattle.tasks.proofs.cycle_known.Goals as goal

pub returns-in_err-may_cycle : goal.returns-in_err-may_cycle
unfolding effect
returns-in_err-may_cycle c = search (behind, c.in_err-may_cycle.was, c.from_residual.ensures)

pub cycled-requires : goal.cycled-requires
cycled-requires c = search (behind, c.in_ok-may_cycle.was)

pub returns : goal.returns
unfolding effect
returns c = search (behind, c.in_ok-may_cycle.was)
