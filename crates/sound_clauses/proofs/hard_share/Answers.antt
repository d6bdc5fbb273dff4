-- A share is computed as it is defined, and nothing wraps. Assumes nothing.
use Rattle.std.proofs.Common.{rules}
use Rattle.kernel.specs.Kernel.{share}
use Rattle.sound_clauses.proofs.hard_share.Goals as goal

pub returns : goal.returns
unfolding share
returns c = search rules
