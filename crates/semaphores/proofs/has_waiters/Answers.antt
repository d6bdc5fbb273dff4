-- Someone waits where the queue has a first. Assumes nothing.
use Rattle.std.proofs.Common.{ap, sym, not, List, ℕ, arith}
use Rattle.kernel.specs.Status.{waiters}
use Rattle.kernel.specs.Refusals.{empty}
use Rattle.words.proofs.Seen.{queue_past}
use Rattle.semaphores.proofs.Cases.{some_wait}
use Rattle.semaphores.proofs.has_waiters.Goals as goal

pub returns-then-n-lt-SEMAPHORES : goal.returns-then-n-lt-SEMAPHORES
returns-then-n-lt-SEMAPHORES c = some_wait c.first-x.ensures

-- No one waits at a number that no semaphore has.
pub returns : goal.returns
returns c = sym (ap (λ (xs : List ℕ). not (empty xs)) (queue_past c.args.w.now (waiters c.args.n) (omega arith)))
