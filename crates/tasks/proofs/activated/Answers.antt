-- A SLEEP task is released and joins the ready queue; then schedule. Assumes nothing.
use Rattle.std.proofs.Common.{sym}
use Rattle.kernel.specs.Moves.{move, schedule}
use Rattle.kernel.specs.Tasks.{activate}
use Rattle.kernel.proofs.Shows.{then, running}
use Rattle.refusals.proofs.Answers.{allows}
use Rattle.tasks.proofs.activated.Goals as goal

pub released-deadline-requires-clause-is_task : goal.released-deadline-requires-clause-is_task
released-deadline-requires-clause-is_task c = (allows c.requires).allowed.0

pub move_task-requires-clause-is_task : goal.move_task-requires-clause-is_task
move_task-requires-clause-is_task c = (allows c.requires).allowed.0

pub schedule-requires-clause-runs_task : goal.schedule-requires-clause-runs_task
unfolding move
schedule-requires-clause-runs_task c = rw (running c.move_task.ensures.shows) c.requires.sound.good.runs.running

pub returns : goal.returns
unfolding activate
returns c = rw (sym c.released-deadline.ensures) (then schedule c.move_task.ensures.shows c.schedule.ensures)
