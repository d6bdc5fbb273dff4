-- A semaphore at which no one waits is unused again. Assumes nothing.
use Rattle.std.proofs.Common.{refl}
use Rattle.kernel.specs.Kernel.{unused_semaphore}
use Rattle.kernel.specs.Semaphores.{delete}
use Rattle.kernel.proofs.Shows.{kept}
use Rattle.words.proofs.Entries.{semaphore_set}
use Rattle.refusals.proofs.Answers.{allows}
use Rattle.semaphores.proofs.deleted.Goals as goal

pub set_semaphore-requires-clause-is_semaphore : goal.set_semaphore-requires-clause-is_semaphore
set_semaphore-requires-clause-is_semaphore c = (allows c.requires).allowed.0.0

pub returns : goal.returns
unfolding delete
returns c = rw c.set_semaphore.ensures (semaphore_set c.args.n unused_semaphore (allows c.requires).allowed.0.0 (λ e. refl) (kept c.requires.sound))
