-- The zombies that are due go, one after the other. Assumes nothing.
use Rattle.std.proofs.Common.{arith}
use Rattle.kernel.specs.Tick.{free_zombies}
use Rattle.laws_effects.proofs.Due.{share_part, first_zombie, frees}
use Rattle.ticks.proofs.Sweeping.{ended, again, fewer}
use Rattle.ticks.proofs.free_zombies.Goals as goal

pub free-requires-clause-share_counted : goal.free-requires-clause-share_counted
free-requires-clause-share_counted c =
    let v = c.loop-zombie.invariant in
    let z = (first_zombie v.holds.0 (v.first.first c.loop-zombie-test.true)).1 in
    share_part v.holds.0.steady c.loop-zombie.zombie (omega arith)

pub loop-zombie-smaller : goal.loop-zombie-smaller
loop-zombie-smaller c = fewer frees c.loop-zombie.invariant c.loop-zombie-test.true c.free.ensures

pub loop-zombie-preserved : goal.loop-zombie-preserved
loop-zombie-preserved c = again frees c.loop-zombie.invariant c.loop-zombie-test.true c.free.ensures c.first_due-zombie-in-loop-zombie.ensures

pub returns : goal.returns
unfolding free_zombies
returns c = ended frees c.loop-zombie.invariant c.loop-zombie-test.false
