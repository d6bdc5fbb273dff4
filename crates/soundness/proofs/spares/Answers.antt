-- The spare words of every record are 0 where those of each are. Assumes nothing.
use Rattle.std.proofs.Common.{rules}
use Rattle.kernel.proofs.Ranges.{all_below}
use Rattle.soundness.proofs.spares.Goals as goal

pub returns : goal.returns
returns c = all_below c.all.ensures.ran (λ x b q k. search rules)
