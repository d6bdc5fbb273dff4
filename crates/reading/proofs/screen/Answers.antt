-- The test, and then the screen call. Assumes nothing.
use Rattle.std.proofs.Common.{refl}
use Rattle.kernel.specs.Calls.{effect}
use Rattle.kernel.specs.Slices.{slice}
use Rattle.kernel.specs.Promise.{lent}
use Rattle.refusals.proofs.Answers.{unsound_answers, unsound_row}
use Rattle.reading.proofs.screen.Goals as goal

pub returns-then-not-sound : goal.returns-then-not-sound
unfolding effect
returns-then-not-sound c =
    rw c.unsound.ensures (unsound_answers c.sound.ensures (lent (slice c.args.memory) (slice c.args.standby)) c.if-not-sound.true (unsound_row c.args.s.words c.args.memory.now) refl)
