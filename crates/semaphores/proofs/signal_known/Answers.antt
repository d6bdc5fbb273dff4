-- The rows of signal, and then its work. Assumes nothing.
use Rattle.kernel.specs.Calls.{effect}
use Rattle.refusals.proofs.Answers.{behind}
use Rattle.semaphores.proofs.signal_known.Goals as goal

pub returns-in_err-may_signal : goal.returns-in_err-may_signal
unfolding effect
returns-in_err-may_signal c = search (behind, c.in_err-may_signal.was, c.from_residual.ensures)

pub signalled-requires : goal.signalled-requires
signalled-requires c = search (behind, c.in_ok-may_signal.was)

pub returns : goal.returns
unfolding effect
returns c = search (behind, c.in_ok-may_signal.was)
