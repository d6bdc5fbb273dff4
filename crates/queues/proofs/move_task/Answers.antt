-- Taken out and filed, a task has moved. Assumes nothing.
use Rattle.std.proofs.Common.{rules}
use Rattle.queues.proofs.Moved.{linked, moved}
use Rattle.queues.proofs.move_task.Goals as goal

pub file-requires-clause-linked : goal.file-requires-clause-linked
file-requires-clause-linked c = search (rules, linked)

pub returns : goal.returns
returns c = moved c.requires.kept c.requires.is_task c.args.status c.args.deadline _ _ (rw c.take_out.ensures at c.file.ensures)
