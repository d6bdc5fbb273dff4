-- The walk along the links compares each previous link with the one by which it came. Assumes nothing.
use Rattle.queues.specs.Links.{Linked}
use Rattle.soundness.proofs.Walks.{Testing}
use Rattle.soundness.proofs.chained.Given as goal

abbrev pub invariant-loop : goal.invariant-loop
invariant-loop l = Testing l.w l.counter l.back l.at (Linked l.w l.q)
