-- `State::fresh` gives the fresh state: zeros, then -1 in heads and links, and the main task. Assumes nothing.
use Rattle.std.proofs.Common.{refl}
use Rattle.kernel.specs.Fresh.{with_main, fresh_words}
use Rattle.kernel.proofs.State.fresh.Goals as goal

pub returns : goal.returns
unfolding fresh_words with_main
returns c = rw (c.none_at-3.ensures, c.none_at-2.ensures, c.none_at.ensures) refl
