-- A buffer is free where it is not the latest and in no session. Assumes nothing.
use Rattle.std.proofs.Common.{◌≡◌, refl, Bool, true, false}
use mathlib.Core.Bool.{not, ◌&&◌, ◌||◌}
use Rattle.kernel.specs.Kernel.{channel}
use Rattle.kernel.specs.Channels.{is_latest}
use Rattle.kernel.specs.Seen.{seen}
use Rattle.words.proofs.Seen.{channel_seen}
use Rattle.buffers.proofs.free_buffer.Goals as goal

neither : (a b : Bool) → not (a || b) ≡ not a && not b
neither true b = refl
neither false b = refl

pub returns-then-is_latest : goal.returns-then-is_latest
returns-then-is_latest c =
    let tested : is_latest (channel (seen c.args.w.now) c.args.c).latest c.args.b ≡ true = cc (channel_seen c.args.w.now c.args.c c.requires) in rw tested

pub returns : goal.returns
returns c =
    let tested : is_latest (channel (seen c.args.w.now) c.args.c).latest c.args.b ≡ false = cc (channel_seen c.args.w.now c.args.c c.requires) in
    rw (tested, c.in_session.ensures) (search neither)
