-- The count falls, or the running task waits and another runs. Assumes nothing.
use Rattle.std.proofs.Common.{◌<◌, sym, arith}
use Rattle.kernel.specs.Sizes.{semaphore_count}
use Rattle.kernel.specs.Moves.{dispatch}
use Rattle.kernel.specs.Seen.{seen}
use Rattle.kernel.proofs.Shows.{kept, then}
use Rattle.refusals.proofs.Answers.{allows}
use Rattle.semaphores.proofs.Cases.{counts, wait_passes, wait_waits}
use Rattle.semaphores.proofs.waited.Goals as goal

pub returns-then-count-gt0 : goal.returns-then-count-gt0
returns-then-count-gt0 c =
    rw (c.set_semaphore.ensures, wait_passes (seen c.args.w.now) c.args.n (rw c.count_of-count.ensures at c.if-count-gt0.true), sym c.count_of-count.ensures)
    (counts _ (allows c.requires).allowed.2.0 (kept c.requires.sound))

pub restate-requires-clause-status_fits : goal.restate-requires-clause-status_fits
restate-requires-clause-status_fits c = let l : c.args.n < semaphore_count = (allows c.requires).allowed.2.0 in omega arith

pub returns : goal.returns
returns c =
    rw (wait_waits (seen c.args.w.now) c.args.n (rw c.count_of-count.ensures at c.if-count-gt0.false)) (then dispatch (rw c.running-i.ensures at c.restate.ensures) c.dispatch.ensures)
