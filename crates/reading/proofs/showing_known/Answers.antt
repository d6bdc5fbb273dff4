-- A showing answers as the table and the model say. Assumes nothing.
use Rattle.std.proofs.Common.{refl}
use Rattle.kernel.specs.Calls.{effect, part}
use Rattle.kernel.specs.Slices.{slice, part_of}
use Rattle.kernel.specs.Promise.{lent}
use Rattle.reading.specs.Message.{Shown}
use Rattle.reading.proofs.HandsBack.{shows}
use Rattle.reading.proofs.showing_known.Goals as goal

pub returns : goal.returns
unfolding effect
returns c =
    let m = slice c.args.memory in
    let s : Shown c.args.w.now c.args.c m (part_of m 0 0) c.shown.result.answer (slice c.shown.result.slice) = rw c.part.ensures at c.shown.ensures in
    λ text. shows (lent m text) c.args.c (part 0 0) (part_of m 0 0) refl refl c.requires s (record { tested = s.tested })
