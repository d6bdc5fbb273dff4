-- The words of a channel are written. Assumes nothing.
use Rattle.words.proofs.Entries.{channel_set}
use Rattle.channels.proofs.store.Goals as goal

pub returns : goal.returns
returns c = rw c.set_channel.ensures (channel_set c.args.c c.args.channel c.requires.is_channel c.requires.kept)
