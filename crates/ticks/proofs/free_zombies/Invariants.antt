-- The zombies that are due go, one after the other. Assumes nothing.
use Rattle.std.proofs.Common.{length}
use Rattle.kernel.specs.Status.{zombie_queue}
use Rattle.kernel.specs.Kernel.{queue}
use Rattle.kernel.specs.Tick.{free}
use Rattle.kernel.specs.Seen.{seen}
use Rattle.laws_effects.specs.UnderWay.{Freeing}
use Rattle.ticks.proofs.Sweeping.{Sweeping}
use Rattle.ticks.proofs.free_zombies.Given as goal

abbrev pub invariant-loop-zombie : goal.invariant-loop-zombie
invariant-loop-zombie l = Sweeping Freeing free zombie_queue l.fn.w l.w l.zombie

abbrev pub decreases-loop-zombie : goal.decreases-loop-zombie
decreases-loop-zombie l = length (queue (seen l.w) zombie_queue)
