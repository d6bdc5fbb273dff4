-- The rows of activate, and then its work. Assumes nothing.
use Rattle.kernel.specs.Calls.{effect}
use Rattle.refusals.proofs.Answers.{behind}
use Rattle.tasks.proofs.activate_known.Goals as goal

pub returns-in_err-may_activate : goal.returns-in_err-may_activate
unfolding effect
returns-in_err-may_activate c = search (behind, c.in_err-may_activate.was, c.from_residual.ensures)

pub activated-requires : goal.activated-requires
activated-requires c = search (behind, c.in_ok-may_activate.was)

pub returns : goal.returns
unfolding effect
returns c = search (behind, c.in_ok-may_activate.was)
