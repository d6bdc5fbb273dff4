-- The lowest unused semaphore is the first that is found. Assumes nothing.
use Rattle.std.proofs.Common.{rules, arith}
use Rattle.kernel.specs.Semaphores.{lowest_semaphore}
use Rattle.kernel.proofs.Ranges.{found_below}
use Rattle.semaphores.proofs.lowest.Goals as goal

pub returns : goal.returns
unfolding lowest_semaphore
returns c = found_below _ _ c.find.ensures.ran c.unwrap_or.ensures (λ x b q k. (search rules, λ l. grind arith))
