-- A task goes out of its queue, if it is in one. Assumes nothing.
use borrow.Author.Tests.{lt-ltb, le-ltb}
use Rattle.queues.specs.Links.{taken_out}
use Rattle.queues.proofs.take_out.Goals as goal

pub returns-then-q-lt-QUEUES : goal.returns-then-q-lt-QUEUES
unfolding taken_out
returns-then-q-lt-QUEUES c =
    let q = c.queue-q.ensures in
    rw (lt-ltb _ _ (rw q at c.if-q-lt-QUEUES.true), c.set_links.ensures, c.relink.ensures, c.next-after.ensures, c.previous-before.ensures, q)

pub returns : goal.returns
unfolding taken_out
returns c = rw (le-ltb _ _ (rw c.queue-q.ensures at c.if-q-lt-QUEUES.false))
