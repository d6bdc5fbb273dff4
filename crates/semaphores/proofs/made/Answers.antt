-- The lowest unused semaphore is used from now on. Assumes nothing.
use Rattle.std.proofs.Common.{sym, arith}
use Rattle.kernel.specs.Semaphores.{new_semaphore}
use Rattle.kernel.proofs.Shows.{kept}
use Rattle.refusals.proofs.Answers.{allows}
use Rattle.semaphores.proofs.Cases.{room, counts}
use Rattle.semaphores.proofs.made.Goals as goal

pub overflow_cast-a : goal.overflow_cast-a
overflow_cast-a c = let a = (allows c.requires.legal).allowed in omega arith

pub set_semaphore-requires-clause-is_semaphore : goal.set_semaphore-requires-clause-is_semaphore
set_semaphore-requires-clause-is_semaphore c = rw c.requires.lowest (room c.requires.legal)

pub set_semaphore-requires-clause-count_fits : goal.set_semaphore-requires-clause-count_fits
set_semaphore-requires-clause-count_fits c = let a = (allows c.requires.legal).allowed in omega arith

pub returns : goal.returns
unfolding new_semaphore
returns c =
    rw (c.set_semaphore.ensures, sym c.requires.lowest) (counts c.args.count (rw c.requires.lowest (room c.requires.legal)) (kept c.requires.legal.sound))
