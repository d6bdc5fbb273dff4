-- The rows of open, and then its work. Assumes nothing.
use Rattle.kernel.specs.Calls.{effect}
use Rattle.refusals.proofs.Answers.{behind}
use Rattle.channels.proofs.Room.{room_numbered}
use Rattle.channels.proofs.open_channel_known.Goals as goal

pub returns-in_err-may_open : goal.returns-in_err-may_open
unfolding effect
returns-in_err-may_open c = search (behind, c.in_err-may_open.was, c.from_residual.ensures)

pub opened-c-requires : goal.opened-c-requires
opened-c-requires c = search (behind, c.in_ok-may_open.was)

pub done_with-requires : goal.done_with-requires
done_with-requires c = search (behind, room_numbered, c.in_ok-may_open.was)

pub returns : goal.returns
unfolding effect
returns c = search (behind, c.in_ok-may_open.was)
