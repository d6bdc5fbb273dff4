-- The test, and then the call. Assumes nothing.
use Rattle.refusals.proofs.Answers.{unlent_unsound}
use Rattle.verbs.proofs.make.Goals as goal

pub returns-then-not-sound : goal.returns-then-not-sound
returns-then-not-sound c = unlent_unsound c.sound.ensures c.if-not-sound.true tt
