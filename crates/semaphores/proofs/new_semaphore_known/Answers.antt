-- The rows of new semaphore, and then its work. Assumes nothing.
use Rattle.kernel.specs.Calls.{effect}
use Rattle.refusals.proofs.Answers.{behind}
use Rattle.semaphores.proofs.Cases.{room_numbered}
use Rattle.semaphores.proofs.new_semaphore_known.Goals as goal

pub returns-in_err-may_make : goal.returns-in_err-may_make
unfolding effect
returns-in_err-may_make c = search (behind, c.in_err-may_make.was, c.from_residual.ensures)

pub made-requires-clause-legal : goal.made-requires-clause-legal
made-requires-clause-legal c = search (behind, c.in_ok-may_make.was)

pub done_with-requires : goal.done_with-requires
done_with-requires c = search (behind, room_numbered, c.in_ok-may_make.was)

pub returns : goal.returns
unfolding effect
returns c = search (behind, c.in_ok-may_make.was)
