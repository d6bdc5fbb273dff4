-- The walk through a queue meets the task, or comes to the end. Assumes nothing.
use Rattle.soundness.proofs.Walks.{looking}
use Rattle.soundness.proofs.stands.Goals as goal

pub loop-y-init : goal.loop-y-init
loop-y-init c = search looking

pub returns-then-y-x : goal.returns-then-y-x
returns-then-y-x c = search looking

pub loop-y-smaller : goal.loop-y-smaller
loop-y-smaller c = search looking

pub loop-y-preserved : goal.loop-y-preserved
loop-y-preserved c = search looking

pub returns : goal.returns
returns c = search looking
