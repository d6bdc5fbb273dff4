-- The message lies within the memory. Assumes nothing.
use Rattle.std.proofs.Common.{arith}
use Rattle.channels.proofs.Holds.{held_inside}
use Rattle.reading.proofs.HandsBack.{readable}
use Rattle.reading.proofs.shown.Goals as goal

pub held-place-requires : goal.held-place-requires
held-place-requires c = (readable c.requires (record { tested = c.on_channel.ensures }) c.in-Ok.is).0

pub part-requires : goal.part-requires
part-requires c =
    let r = readable c.requires (record { tested = c.on_channel.ensures }) c.in-Ok.is in
    rw (c.held-place.ensures, c.channel_of-size.ensures) (omega (arith, r.1, held_inside r.0))
