-- The lowest unused channel is opened. Assumes nothing.
use Rattle.std.proofs.Common.{arith}
use Rattle.kernel.specs.Channels.{open_channel}
use Rattle.refusals.proofs.Answers.{allows}
use Rattle.channels.proofs.Room.{room}
use Rattle.channels.proofs.opened.Goals as goal

pub overflow_cast-channel : goal.overflow_cast-channel
unfolding open_channel
overflow_cast-channel c = let l = (allows c.requires).allowed.0 in omega arith

pub overflow_cast-channel-2 : goal.overflow_cast-channel-2
unfolding open_channel
overflow_cast-channel-2 c = let l = (allows c.requires).allowed.1 in omega arith

pub store-requires-clause-is_channel : goal.store-requires-clause-is_channel
unfolding open_channel
store-requires-clause-is_channel c = rw c.lowest_channel-c.ensures (room c.requires)

pub returns-clause-shows : goal.returns-clause-shows
unfolding open_channel
returns-clause-shows c = rw c.lowest_channel-c.ensures at c.store.ensures
