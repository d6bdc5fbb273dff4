-- The buffer that was being written is the latest, and the session is closed. Assumes nothing.
use Rattle.std.proofs.Common.{ap, ◌∙◌, arith}
use Rattle.std.specs.Prelude.{Some}
use Rattle.kernel.specs.Kernel.{Kernel, with_channel}
use Rattle.kernel.specs.Channels.{buffer, put}
use Rattle.kernel.proofs.Shows.{then}
use Rattle.channels.proofs.Holds.{is_task, counted_most}
use Rattle.writing.proofs.published.Goals as goal

pub store-requires-clause-latest_fits : goal.store-requires-clause-latest_fits
unfolding put
store-requires-clause-latest_fits c =
    let h = c.requires in
    let is = c.buffer-b.ensures ∙ ap buffer (c.own-session.ensures h.is_channel (is_task h)) in
    omega (arith, is, counted_most h)

pub returns : goal.returns
unfolding put
returns c =
    let h = c.requires in
    let is = c.buffer-b.ensures ∙ ap buffer (c.own-session.ensures h.is_channel (is_task h)) in
    rw (← is, ← c.channel_of-before.ensures)
    (then
    (λ (j : Kernel). with_channel j c.args.c (record { size = c.channel_of-before.result.size; buffers = c.channel_of-before.result.buffers; latest = Some c.buffer-b.result }))
    c.with_own.ensures
    c.store.ensures)
