-- With its new class, a task moves. Assumes nothing.
use Rattle.std.proofs.Common.{rules}
use Rattle.queues.proofs.Reclassed.{still_kept, moved_so}
use Rattle.queues.proofs.recast.Goals as goal

pub move_task-requires-clause-kept : goal.move_task-requires-clause-kept
move_task-requires-clause-kept c = search (rules, still_kept)

pub returns : goal.returns
returns c = search moved_so
