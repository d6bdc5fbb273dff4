-- Out of range, or unused. Assumes nothing.
use borrow.Author.Rules.{rules}
use borrow.Author.Tests.{lt-leb}
use Rattle.words.proofs.Seen.{channel_seen}
use Rattle.buffers.proofs.no_channel.Goals as goal

pub returns : goal.returns
returns c = search (rules, lt-leb, channel_seen, c.channel-channel.ensures)
