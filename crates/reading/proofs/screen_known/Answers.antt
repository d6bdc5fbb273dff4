-- The screen call answers as the table and the model say. Assumes nothing.
use Rattle.std.proofs.Common.{refl}
use Rattle.kernel.specs.Calls.{effect, standby}
use Rattle.kernel.specs.Slices.{slice}
use Rattle.kernel.specs.Promise.{lent}
use Rattle.reading.proofs.HandsBack.{shows}
use Rattle.reading.proofs.screen_known.Goals as goal

pub returns : goal.returns
unfolding effect
returns c =
    let text = slice c.args.standby in
    shows (lent (slice c.args.memory) text) c.args.c standby text refl refl c.requires c.shown.ensures (record { tested = c.shown.ensures.tested })
