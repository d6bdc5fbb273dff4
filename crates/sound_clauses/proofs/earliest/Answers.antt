-- The first ready task's record has its deadline. Assumes nothing.
use Rattle.kernel.proofs.Decided.{at_most}
use Rattle.words.proofs.Seen.{task_seen}
use Rattle.sound_clauses.proofs.earliest.Goals as goal

pub returns-then-first-lt-TASKS : goal.returns-then-first-lt-TASKS
returns-then-first-lt-TASKS c = rw (c.deadline-deadline.ensures, c.first-first.ensures.some c.if-first-lt-TASKS.true) (rw (task_seen _ _ c.if-first-lt-TASKS.true) (at_most _ _))
