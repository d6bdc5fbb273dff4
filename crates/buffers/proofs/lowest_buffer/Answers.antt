-- The lowest free buffer is the first that is found. Assumes nothing.
use Rattle.std.proofs.Common.{ap, sym, ◌∙◌, rules}
use Rattle.kernel.specs.declared.Channel.{Channel}
use Rattle.kernel.specs.Kernel.{lowest}
use Rattle.kernel.specs.Channels.{free_buffer, lowest_buffer}
use Rattle.kernel.specs.Seen.{seen}
use Rattle.kernel.proofs.Ranges.{found_below}
use Rattle.words.proofs.Seen.{channel_seen}
use Rattle.buffers.proofs.lowest_buffer.Goals as goal

pub returns : goal.returns
unfolding lowest_buffer
returns c l =
    let read = channel_seen c.args.w.now c.args.c l ∙ sym c.channel-buffers.ensures in
    found_below _ _ c.find.ensures.ran c.unwrap_or.ensures (λ x b q k. search rules)
    ∙ sym (ap (λ (a : Channel). lowest a.buffers (free_buffer (seen c.args.w.now) c.args.c)) read)
