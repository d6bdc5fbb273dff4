-- The lowest FREE record is the first that is found. Assumes nothing.
use Rattle.std.proofs.Common.{rules, arith}
use Rattle.kernel.specs.Tasks.{lowest_free}
use Rattle.kernel.proofs.Ranges.{found_below}
use Rattle.creation.proofs.lowest_free.Goals as goal

pub returns : goal.returns
unfolding lowest_free
returns c = found_below _ _ c.find.ensures.ran c.unwrap_or.ensures (λ x b q k. (search rules, λ l. grind arith))
