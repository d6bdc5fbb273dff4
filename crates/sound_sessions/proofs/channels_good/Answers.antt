-- Every channel is in order where each is. Assumes nothing.
use Rattle.std.proofs.Common.{rules, arith}
use Rattle.kernel.proofs.Ranges.{all_below}
use Rattle.sound_sessions.proofs.Channel.{channel_tested}
use Rattle.sound_sessions.proofs.channels_good.Goals as goal

pub returns : goal.returns
returns c = all_below c.all.ensures.ran (λ x b q k. (search rules, λ l. channel_tested c.args.w.now x l (grind arith)))
