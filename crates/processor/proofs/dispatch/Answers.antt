-- The first ready task runs. Assumes nothing.
use Rattle.processor.proofs.Turns.{turns}
use Rattle.processor.proofs.dispatch.Goals as goal

pub returns-then-x-lt-TASKS : goal.returns-then-x-lt-TASKS
returns-then-x-lt-TASKS c = search turns

pub returns : goal.returns
returns c = search turns
