-- WAIT names a used semaphore, and no other status names one. Assumes nothing.
use Rattle.words.proofs.Seen.{semaphore_seen}
use Rattle.sound_clauses.proofs.names.Goals as goal

pub returns-then-n-lt-SEMAPHORES : goal.returns-then-n-lt-SEMAPHORES
returns-then-n-lt-SEMAPHORES c =
    let l = c.if-n-lt-SEMAPHORES.true in
    rw c.in-Wait.is (rw (semaphore_seen _ _ l, ← c.semaphore-a.ensures) (λ u. (l, u), λ h. h.1))
