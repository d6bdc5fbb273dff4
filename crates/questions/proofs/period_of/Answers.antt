-- A period past the table is that of a FREE record. Assumes nothing.
use Rattle.std.proofs.Common.{ap, sym, ◌∙◌}
use Rattle.kernel.specs.declared.Class.{Class}
use Rattle.kernel.specs.Kernel.{Bare, period_of}
use Rattle.words.proofs.Seen.{task_seen, task_past}
use Rattle.questions.proofs.period_of.Goals as goal

pub returns-then-n-lt-TASKS : goal.returns-then-n-lt-TASKS
returns-then-n-lt-TASKS c = c.period_of.ensures ∙ ap (λ (a : Class). period_of a) c.class-class.ensures ∙ sym (ap (λ (a : Bare). period_of a.class) (task_seen c.args.w.now c.args.n c.if-n-lt-TASKS.true))

pub returns : goal.returns
returns c = sym (ap (λ (a : Bare). period_of a.class) (task_past c.args.w.now c.args.n c.if-n-lt-TASKS.false))
