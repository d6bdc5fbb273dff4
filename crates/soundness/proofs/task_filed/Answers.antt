-- A task is looked for in the queue of its status, and has no links where that has none. Assumes nothing.
use Rattle.std.proofs.Common.{ap, sym, ◌∙◌, arith}
use Rattle.kernel.specs.Status.{queue_of}
use Rattle.kernel.specs.Kernel.{Bare}
use Rattle.kernel.proofs.Decided.{means}
use Rattle.words.proofs.Seen.{task_seen}
use Rattle.soundness.proofs.task_filed.Goals as goal

pub returns-then-q-lt-QUEUES : goal.returns-then-q-lt-QUEUES
returns-then-q-lt-QUEUES c =
    let e = ap (λ (b : Bare). queue_of b.status) (task_seen c.args.w.now c.args.x c.requires.is_task) ∙ sym c.queue-q.ensures in
    means c.stands.ensures (λ m. record { stands = λ h. rw e m; loose = λ h. absurd (omega arith) }) (λ f. rw e at (f.stands (rw e c.if-q-lt-QUEUES.true)))

pub returns : goal.returns
returns c =
    let e = ap (λ (b : Bare). queue_of b.status) (task_seen c.args.w.now c.args.x c.requires.is_task) ∙ sym c.queue-q.ensures in
    means c.loose.ensures (λ m. record { stands = λ h. absurd (omega arith); loose = λ h. m }) (λ f. f.loose (rw e c.if-q-lt-QUEUES.false))
