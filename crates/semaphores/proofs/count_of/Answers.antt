-- A count past the table is that of an unused semaphore. Assumes nothing.
use Rattle.std.proofs.Common.{ap, sym, ◌∙◌}
use Rattle.kernel.specs.declared.Semaphore.{Semaphore}
use Rattle.words.proofs.Seen.{semaphore_seen, semaphore_past}
use Rattle.semaphores.proofs.count_of.Goals as goal

pub returns-then-n-lt-SEMAPHORES : goal.returns-then-n-lt-SEMAPHORES
returns-then-n-lt-SEMAPHORES c = ap (λ (a : Semaphore). a.count) (c.semaphore-a.ensures ∙ sym (semaphore_seen c.args.w.now c.args.n c.if-n-lt-SEMAPHORES.true))

pub returns : goal.returns
returns c = sym (ap (λ (a : Semaphore). a.count) (semaphore_past c.args.w.now c.args.n c.if-n-lt-SEMAPHORES.false))
