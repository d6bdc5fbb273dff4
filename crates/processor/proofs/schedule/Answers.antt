-- The running task gives way only to a strictly earlier one. Assumes nothing.
use Rattle.processor.proofs.Turns.{turns, runs_on}
use Rattle.processor.proofs.schedule.Goals as goal

pub returns-then-first-running : goal.returns-then-first-running
returns-then-first-running c = search turns

pub returns-else-first-running : goal.returns-else-first-running
returns-else-first-running c = runs_on c.requires.kept c.first-x.ensures c.if-x-lt-TASKS.true c.requires.runs_task c.running-i.ensures c.deadline-first.ensures c.deadline-running.ensures c.if-first-running.false

pub returns-else-x-lt-TASKS : goal.returns-else-x-lt-TASKS
returns-else-x-lt-TASKS c = search turns
