-- Past the table there are only unused channels. Assumes nothing.
use Rattle.std.proofs.Common.{sym, ◌∙◌}
use Rattle.words.proofs.Seen.{channel_seen, channel_past}
use Rattle.channels.proofs.channel_of.Goals as goal

pub returns-then-c-lt-CHANNELS : goal.returns-then-c-lt-CHANNELS
returns-then-c-lt-CHANNELS c = c.channel.ensures ∙ sym (channel_seen c.args.w.now c.args.c c.if-c-lt-CHANNELS.true)

pub returns : goal.returns
returns c = sym (channel_past c.args.w.now c.args.c c.if-c-lt-CHANNELS.false)
