-- The place of the buffer that a session holds. Assumes nothing.
use Rattle.std.proofs.Common.{ap, ◌∙◌}
use Rattle.kernel.specs.Channels.{buffer}
use Rattle.channels.proofs.Holds.{is_task, counted_most}
use Rattle.channels.proofs.held.Goals as goal

pub buffer_start-requires-clause-is_buffer : goal.buffer_start-requires-clause-is_buffer
buffer_start-requires-clause-is_buffer c =
    let h = c.requires in
    rw (c.buffer-b.ensures ∙ ap buffer (c.own-session.ensures h.is_channel (is_task h))) (counted_most h)
