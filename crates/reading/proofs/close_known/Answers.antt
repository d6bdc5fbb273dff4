-- The rows of close, and then its work. Assumes nothing.
use Rattle.kernel.specs.Channels as Channels
use Rattle.kernel.specs.Calls.{effect}
use Rattle.refusals.proofs.Answers.{behind}
use Rattle.reading.proofs.close_known.Goals as goal

pub returns-in_err-on_channel : goal.returns-in_err-on_channel
unfolding effect Channels.close
returns-in_err-on_channel c = search (behind, c.in_err-on_channel.was, c.from_residual.ensures)

pub returns : goal.returns
unfolding effect Channels.close
returns c = search (behind, c.in_ok-on_channel.was)
