-- The first waiter becomes READY and is scheduled; with no waiter the count rises. Assumes nothing.
use Rattle.std.proofs.Common.{◌<◌, sym, arith}
use Rattle.kernel.specs.Sizes.{semaphore_count}
use Rattle.kernel.specs.Moves.{move, schedule}
use Rattle.kernel.specs.Seen.{seen}
use Rattle.kernel.proofs.Shows.{kept, then, running}
use Rattle.refusals.proofs.Answers.{allows}
use Rattle.semaphores.proofs.Cases.{counts, signal_none, signal_first}
use Rattle.semaphores.proofs.signalled.Goals as goal

pub overflow_add-n : goal.overflow_add-n
overflow_add-n c = let l : c.args.n < semaphore_count = (allows c.requires).allowed.0.0 in omega arith

pub first-x-requires : goal.first-x-requires
first-x-requires c = let l : c.args.n < semaphore_count = (allows c.requires).allowed.0.0 in omega arith

pub schedule-requires-clause-runs_task : goal.schedule-requires-clause-runs_task
unfolding move
schedule-requires-clause-runs_task c = rw (running c.restate.ensures) c.requires.sound.good.runs.running

pub returns-then-x-lt-TASKS : goal.returns-then-x-lt-TASKS
returns-then-x-lt-TASKS c =
    rw (signal_first (seen c.args.w.now) c.args.n (c.first-x.ensures.some c.if-x-lt-TASKS.true)) (then schedule c.restate.ensures c.schedule.ensures)

pub set_semaphore-requires-clause-is_semaphore : goal.set_semaphore-requires-clause-is_semaphore
set_semaphore-requires-clause-is_semaphore c = (allows c.requires).allowed.0.0

pub returns : goal.returns
returns c =
    rw (c.set_semaphore.ensures, signal_none (seen c.args.w.now) c.args.n (c.first-x.ensures.none c.if-x-lt-TASKS.false), sym c.count_of-count.ensures)
    (counts _ (allows c.requires).allowed.0.0 (kept c.requires.sound))
