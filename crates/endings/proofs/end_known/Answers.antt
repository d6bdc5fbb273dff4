-- The rows of end, and then its work. Assumes nothing.
use Rattle.kernel.specs.Calls.{effect}
use Rattle.refusals.proofs.Answers.{behind}
use Rattle.endings.proofs.end_known.Goals as goal

pub returns-in_err-not_by_main : goal.returns-in_err-not_by_main
unfolding effect
returns-in_err-not_by_main c = search (behind, c.in_err-not_by_main.was, c.from_residual.ensures)

pub gone-requires : goal.gone-requires
gone-requires c = search (behind, c.in_ok-not_by_main.was)

pub returns : goal.returns
unfolding effect
returns c = search (behind, c.in_ok-not_by_main.was)
