-- The scan passes every deadline no later than the new one's. Assumes nothing.
use Rattle.queues.proofs.Scans.{At, left}
use Rattle.queues.proofs.scan.Given as goal

abbrev pub invariant-loop-x : goal.invariant-loop-x
invariant-loop-x l = At l.w l.q l.deadline l.before l.after l.x l.passed

abbrev pub decreases-loop-x : goal.decreases-loop-x
decreases-loop-x l = left l.w l.after
