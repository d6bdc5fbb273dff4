-- A task with another status keeps class and deadline. Assumes nothing.
use Rattle.processor.proofs.Turns.{turns}
use Rattle.processor.proofs.restate.Goals as goal

pub returns : goal.returns
returns c = search turns
