-- The walk through a queue tests each status, and each deadline against the one before it. Assumes nothing.
use Rattle.soundness.proofs.Walks.{sorting}
use Rattle.soundness.proofs.sorted.Goals as goal

pub loop-x-init : goal.loop-x-init
loop-x-init c = search sorting

pub returns-then-queue-q : goal.returns-then-queue-q
returns-then-queue-q c = search sorting

pub returns-then-deadline-low : goal.returns-then-deadline-low
returns-then-deadline-low c = search sorting

pub loop-x-smaller : goal.loop-x-smaller
loop-x-smaller c = search sorting

pub loop-x-preserved : goal.loop-x-preserved
loop-x-preserved c = search sorting

pub returns : goal.returns
returns c = search sorting
