-- Out of range, or unused. Assumes nothing.
use Rattle.std.proofs.Common.{ap, sym, ◌∙◌, not}
use borrow.Author.Tests.{lt-leb}
use Rattle.kernel.specs.declared.Semaphore.{Semaphore}
use Rattle.kernel.specs.Sizes.{semaphore_count}
use Rattle.words.proofs.Seen.{semaphore_seen}
use Rattle.semaphores.proofs.no_semaphore.Goals as goal

pub returns : goal.returns
returns c =
    let l = c.if-n-ge-SEMAPHORES.false in
    rw (lt-leb semaphore_count c.args.n l) (ap (λ (x : Semaphore). not x.used) (c.semaphore-a.ensures ∙ sym (semaphore_seen c.args.w.now c.args.n l)))
