-- Every session keeps the rules where each does. Assumes nothing.
use Rattle.std.proofs.Common.{rules, arith}
use Rattle.kernel.proofs.Ranges.{all_below}
use Rattle.sound_sessions.proofs.Channel.{session_tested}
use Rattle.sound_sessions.proofs.keeps_sessions.Goals as goal

pub returns : goal.returns
returns c = all_below c.all.ensures.ran (λ t b q k. (search rules, λ l. session_tested c.args.w.now c.args.c t c.requires l c.channel-channel.ensures (grind arith)))
