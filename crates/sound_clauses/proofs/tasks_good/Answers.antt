-- Every task is good where each is. Assumes nothing.
use Rattle.std.proofs.Common.{rules}
use Rattle.kernel.proofs.Ranges.{all_below}
use Rattle.sound_clauses.proofs.tasks_good.Goals as goal

pub returns : goal.returns
returns c = all_below c.all.ensures.ran (λ x b q k. search rules)
