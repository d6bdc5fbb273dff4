-- The scan passes every deadline no later than the new one's. Assumes nothing.
use Rattle.queues.proofs.Scans.{scans}
use Rattle.queues.proofs.scan.Goals as goal

pub loop-x-init : goal.loop-x-init
loop-x-init c = search scans

pub returns-then-deadline-d : goal.returns-then-deadline-d
returns-then-deadline-d c = search scans

pub loop-x-smaller : goal.loop-x-smaller
loop-x-smaller c = search scans

pub loop-x-preserved : goal.loop-x-preserved
loop-x-preserved c = search scans

pub returns : goal.returns
returns c = search scans
