-- The lowest unused channel is the first that is found. Assumes nothing.
use Rattle.std.proofs.Common.{rules, arith}
use Rattle.kernel.specs.Channels.{lowest_channel}
use Rattle.kernel.proofs.Ranges.{found_below}
use Rattle.words.proofs.Seen.{channel_seen}
use Rattle.buffers.proofs.lowest_channel.Goals as goal

pub returns : goal.returns
unfolding lowest_channel
returns c = found_below _ _ c.find.ensures.ran c.unwrap_or.ensures (λ x b q k. (search rules, λ l. grind (arith, channel_seen c.args.w.now x l)))
