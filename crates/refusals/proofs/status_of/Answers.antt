-- A status past the table is that of a FREE record. Assumes nothing.
use Rattle.std.proofs.Common.{ap, sym, ◌∙◌}
use Rattle.kernel.specs.Kernel.{Bare}
use Rattle.words.proofs.Seen.{task_seen, task_past}
use Rattle.refusals.proofs.status_of.Goals as goal

pub returns-then-n-lt-TASKS : goal.returns-then-n-lt-TASKS
returns-then-n-lt-TASKS c = c.status.ensures ∙ sym (ap (λ (a : Bare). a.status) (task_seen c.args.w.now c.args.n c.if-n-lt-TASKS.true))

pub returns : goal.returns
returns c = sym (ap (λ (a : Bare). a.status) (task_past c.args.w.now c.args.n c.if-n-lt-TASKS.false))
