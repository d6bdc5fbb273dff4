-- The walk through a queue meets the task, or comes to the end. Assumes nothing.
use Rattle.laws_chain.specs.Lists.{Among}
use Rattle.kernel.specs.Kernel.{queue}
use Rattle.kernel.specs.Seen.{seen}
use Rattle.soundness.proofs.Walks.{Looking, left}
use Rattle.soundness.proofs.stands.Given as goal

abbrev pub invariant-loop-y : goal.invariant-loop-y
invariant-loop-y l = Looking l.w l.x l.y (Among l.x (queue (seen l.w) l.q))

abbrev pub decreases-loop-y : goal.decreases-loop-y
decreases-loop-y l = left l.w l.y
