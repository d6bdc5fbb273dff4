-- The walk through a queue tests each status, and each deadline against the one before it. Assumes nothing.
use Rattle.kernel.specs.Seen.{seen}
use Rattle.soundness.specs.Tests.{Sorted}
use Rattle.soundness.proofs.Walks.{Sorting, left}
use Rattle.soundness.proofs.sorted.Given as goal

abbrev pub invariant-loop-x : goal.invariant-loop-x
invariant-loop-x l = Sorting l.w l.q l.low l.x (Sorted (seen l.w) l.q)

abbrev pub decreases-loop-x : goal.decreases-loop-x
decreases-loop-x l = left l.w l.x
