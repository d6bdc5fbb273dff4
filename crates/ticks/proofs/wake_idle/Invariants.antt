-- The IDLE tasks that are due wake, one after the other, and then who runs is decided. Assumes nothing.
use Rattle.std.proofs.Common.{length}
use Rattle.kernel.specs.Status.{idle_queue}
use Rattle.kernel.specs.Kernel.{queue}
use Rattle.kernel.specs.Tick.{wake}
use Rattle.kernel.specs.Seen.{seen}
use Rattle.laws_effects.specs.UnderWay.{Ticking}
use Rattle.ticks.proofs.Sweeping.{Sweeping}
use Rattle.ticks.proofs.wake_idle.Given as goal

abbrev pub invariant-loop-idle : goal.invariant-loop-idle
invariant-loop-idle l = Sweeping Ticking wake idle_queue l.fn.w l.w l.idle

abbrev pub decreases-loop-idle : goal.decreases-loop-idle
decreases-loop-idle l = length (queue (seen l.w) idle_queue)
