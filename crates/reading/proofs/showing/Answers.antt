-- The test, and then a showing. Assumes nothing.
use Rattle.std.proofs.Common.{refl}
use Rattle.kernel.specs.Calls.{effect}
use Rattle.kernel.specs.Slices.{slice}
use Rattle.kernel.specs.Promise.{lent}
use Rattle.refusals.proofs.Answers.{sound_answers, unsound_answers, unsound_row}
use Rattle.reading.proofs.showing.Goals as goal

pub returns-then-not-sound : goal.returns-then-not-sound
unfolding effect
returns-then-not-sound c =
    λ text.
    rw (c.unsound.ensures, c.part.ensures)
    (unsound_answers c.sound.ensures (lent (slice c.args.memory) text) c.if-not-sound.true (unsound_row c.args.s.words c.args.memory.now) refl)

pub returns : goal.returns
unfolding effect
returns c = λ text. sound_answers c.sound.ensures c.if-not-sound.false (c.showing_known.ensures text)
