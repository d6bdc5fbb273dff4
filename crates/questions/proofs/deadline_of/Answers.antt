-- A deadline past the table is that of a FREE record. Assumes nothing.
use Rattle.std.proofs.Common.{ap, sym, ◌∙◌}
use Rattle.kernel.specs.Kernel.{Bare}
use Rattle.words.proofs.Seen.{task_seen, task_past}
use Rattle.questions.proofs.deadline_of.Goals as goal

pub returns-then-n-lt-TASKS : goal.returns-then-n-lt-TASKS
returns-then-n-lt-TASKS c = c.deadline.ensures ∙ sym (ap (λ (a : Bare). a.deadline) (task_seen c.args.w.now c.args.n c.if-n-lt-TASKS.true))

pub returns : goal.returns
returns c = sym (ap (λ (a : Bare). a.deadline) (task_past c.args.w.now c.args.n c.if-n-lt-TASKS.false))
