-- The rows of delete, and then its work. Assumes nothing.
use Rattle.kernel.specs.Calls.{effect}
use Rattle.refusals.proofs.Answers.{behind}
use Rattle.semaphores.proofs.delete_known.Goals as goal

pub returns-in_err-may_delete : goal.returns-in_err-may_delete
unfolding effect
returns-in_err-may_delete c = search (behind, c.in_err-may_delete.was, c.from_residual.ensures)

pub deleted-requires : goal.deleted-requires
deleted-requires c = search (behind, c.in_ok-may_delete.was)

pub returns : goal.returns
unfolding effect
returns c = search (behind, c.in_ok-may_delete.was)
