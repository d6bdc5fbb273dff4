-- The message bytes of the lowest free buffer are cleared. Assumes nothing.
use Rattle.std.proofs.Common.{◌≡◌, ℕ, List, true, arith}
use mathlib.Core.Option.{none}
use Rattle.kernel.specs.Channels as Channels
use Rattle.kernel.specs.Calls.{begin_write, on_channel}
use Rattle.kernel.specs.Refusals.{first, rows}
use Rattle.kernel.specs.Seen.{seen}
use Rattle.kernel.specs.Promise.{handed}
use Rattle.kernel.proofs.Allowed.{Allowed, allowed}
use Rattle.kernel.proofs.Messages.{most, inside, taken}
use Rattle.writing.proofs.cleared.Goals as goal

-- What the rows let pass.
may : (w m : List ℕ) (c : ℕ) → first (rows (on_channel (begin_write c)) (handed true w m)) ≡ none → Allowed (on_channel (begin_write c)) (seen w) m
may w m c e = (allowed (handed true w m) (on_channel (begin_write c)) e).allowed

pub buffer_start-place-requires-clause-is_buffer : goal.buffer_start-place-requires-clause-is_buffer
unfolding Channels.cleared
buffer_start-place-requires-clause-is_buffer c =
    let a = may c.args.w.now c.args.memory.now c.args.c c.requires.none_applies in
    let good = c.requires.sound.good in
    rw (c.lowest_buffer-b.ensures a.1.0) (omega (arith, most good _ a.1, taken good _ a.1 a.3))

pub clear-requires : goal.clear-requires
unfolding Channels.cleared
clear-requires c =
    let a = may c.args.w.now c.args.memory.now c.args.c c.requires.none_applies in
    let good = c.requires.sound.good in
    rw (c.buffer_start-place.ensures, c.lowest_buffer-b.ensures a.1.0, c.channel_of-channel.ensures) (omega (arith, a.0, inside good _ a.1 _ (taken good _ a.1 a.3)))

pub returns-clause-cleared : goal.returns-clause-cleared
unfolding Channels.cleared
returns-clause-cleared c =
    let a = may c.args.w.now c.args.memory.now c.args.c c.requires.none_applies in
    rw (c.clear.ensures, c.buffer_start-place.ensures, c.lowest_buffer-b.ensures a.1.0, c.channel_of-channel.ensures)
