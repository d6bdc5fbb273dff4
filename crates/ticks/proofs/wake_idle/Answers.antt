-- The IDLE tasks that are due wake, one after the other, and then who runs is decided. Assumes nothing.
use Rattle.std.proofs.Common.{sym, subst, arith}
use Rattle.kernel.specs.Moves.{schedule}
use Rattle.kernel.specs.Seen.{seen}
use Rattle.kernel.specs.Shows.{Shows}
use Rattle.kernel.proofs.Shows.{then}
use Rattle.kernel.proofs.Deadlines.{period_most}
use Rattle.laws_effects.proofs.Due.{wakes}
use Rattle.ticks.proofs.Cases.{none_wakes, some_wakes}
use Rattle.ticks.proofs.Sweeping.{ended, again, fewer}
use Rattle.ticks.proofs.wake_idle.Goals as goal

pub wake-requires-clause-next_fits : goal.wake-requires-clause-next_fits
wake-requires-clause-next_fits c =
    let v = c.loop-idle.invariant in
    let l = c.loop-idle-test.true in
    let s = v.holds.steady in
    omega (arith, v.first.due l, s.clocked.clock, period_most (s.tasks c.loop-idle.idle l))

pub loop-idle-smaller : goal.loop-idle-smaller
loop-idle-smaller c = fewer wakes c.loop-idle.invariant c.loop-idle-test.true c.wake.ensures

pub loop-idle-preserved : goal.loop-idle-preserved
loop-idle-preserved c = again wakes c.loop-idle.invariant c.loop-idle-test.true c.wake.ensures c.first_due-idle-in-loop-idle.ensures

pub returns-then-woke : goal.returns-then-woke
returns-then-woke c =
    let f = c.first_due-idle in
    let x = c.if-woke.true in
    subst (Shows _) (sym (some_wakes (seen c.args.w.now) (f.ensures.first x) (f.ensures.due x))) (then schedule (ended wakes c.loop-idle.invariant c.loop-idle-test.false) c.schedule.ensures)

pub returns : goal.returns
returns c =
    subst (Shows _) (sym (none_wakes (seen c.args.w.now) (c.first_due-idle.ensures.none c.if-woke.false))) (ended wakes c.loop-idle.invariant c.loop-idle-test.false)
