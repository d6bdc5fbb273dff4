-- The walk along the links compares each previous link with the one by which it came. Assumes nothing.
use Rattle.soundness.proofs.Walks.{testing}
use Rattle.soundness.proofs.chained.Goals as goal

pub loop-init : goal.loop-init
loop-init c = search testing

pub returns-then-x-ge-TASKS : goal.returns-then-x-ge-TASKS
returns-then-x-ge-TASKS c = search testing

pub returns-then-previous-back : goal.returns-then-previous-back
returns-then-previous-back c = search testing

pub loop-preserved : goal.loop-preserved
loop-preserved c = search testing

pub returns : goal.returns
returns c = search testing
