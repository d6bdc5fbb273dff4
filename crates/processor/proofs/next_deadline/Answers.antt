-- Deadline and period are those that are seen. Assumes nothing.
use Rattle.processor.proofs.Turns.{turns}
use Rattle.processor.proofs.next_deadline.Goals as goal

pub overflow_add-result : goal.overflow_add-result
overflow_add-result c = search turns

pub returns : goal.returns
returns c = search turns
