-- A HARD task that keeps the sizes has a period. Assumes nothing.
use Rattle.std.proofs.Common.{refl}
use Rattle.kernel.proofs.Sizes.{sizes}
use Rattle.sound_clauses.proofs.share_of.Goals as goal

pub hard_share-requires : goal.hard_share-requires
hard_share-requires c = (sizes ((rw c.in-Hard.is at c.requires) refl)).some_period
