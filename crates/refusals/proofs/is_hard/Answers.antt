-- A class past the table is that of a FREE record. Assumes nothing.
use Rattle.std.proofs.Common.{ap, sym, ◌∙◌}
use Rattle.kernel.specs.declared.Class.{Class}
use Rattle.kernel.specs.Kernel.{Bare, hard}
use Rattle.words.proofs.Seen.{task_seen, task_past}
use Rattle.refusals.proofs.is_hard.Goals as goal

pub returns-then-n-lt-TASKS : goal.returns-then-n-lt-TASKS
returns-then-n-lt-TASKS c = c.is_hard.ensures ∙ ap (λ (a : Class). hard a) c.class.ensures ∙ sym (ap (λ (a : Bare). hard a.class) (task_seen c.args.w.now c.args.n c.if-n-lt-TASKS.true))

pub returns : goal.returns
returns c = sym (ap (λ (a : Bare). hard a.class) (task_past c.args.w.now c.args.n c.if-n-lt-TASKS.false))
