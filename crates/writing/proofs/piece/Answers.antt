-- The test, and then a piece. Assumes nothing.
use Rattle.kernel.specs.Calls.{effect}
use Rattle.refusals.proofs.Answers.{border}
use Rattle.writing.proofs.piece.Goals as goal

pub returns-then-not-sound : goal.returns-then-not-sound
unfolding effect
returns-then-not-sound c = search border

pub returns : goal.returns
unfolding effect
returns c = search border
