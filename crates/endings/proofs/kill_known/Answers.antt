-- The rows of kill, and then its work. Assumes nothing.
use Rattle.kernel.specs.Calls.{effect}
use Rattle.refusals.proofs.Answers.{behind}
use Rattle.endings.proofs.kill_known.Goals as goal

pub returns-in_err-may_kill : goal.returns-in_err-may_kill
unfolding effect
returns-in_err-may_kill c = search (behind, c.in_err-may_kill.was, c.from_residual.ensures)

pub killed-requires : goal.killed-requires
killed-requires c = search (behind, c.in_ok-may_kill.was)

pub returns : goal.returns
unfolding effect
returns c = search (behind, c.in_ok-may_kill.was)
