-- The first of a queue is what its head names. Assumes nothing.
use Rattle.queues.proofs.Heads.{first_is}
use Rattle.queues.proofs.first.Goals as goal

pub returns : goal.returns
returns c = search first_is
