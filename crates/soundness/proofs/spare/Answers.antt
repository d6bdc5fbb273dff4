-- The spare words of a record are 0 where each is. Assumes nothing.
use Rattle.std.proofs.Common.{rules}
use Rattle.kernel.proofs.Ranges.{all_in}
use Rattle.soundness.proofs.spare.Goals as goal

pub returns : goal.returns
returns c = all_in c.all.ensures.ran (λ x b q k. search rules)
