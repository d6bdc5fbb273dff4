-- The rows of wait, and then its work. Assumes nothing.
use Rattle.kernel.specs.Calls.{effect}
use Rattle.refusals.proofs.Answers.{behind}
use Rattle.semaphores.proofs.wait_known.Goals as goal

pub returns-in_err-may_wait : goal.returns-in_err-may_wait
unfolding effect
returns-in_err-may_wait c = search (behind, c.in_err-may_wait.was, c.from_residual.ensures)

pub waited-requires : goal.waited-requires
waited-requires c = search (behind, c.in_ok-may_wait.was)

pub returns : goal.returns
unfolding effect
returns c = search (behind, c.in_ok-may_wait.was)
