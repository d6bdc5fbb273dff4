-- The fresh words are sound. Assumes nothing.
use Rattle.std.proofs.Common.{sym, subst}
use Rattle.kernel.specs.declared.State.{State}
use Rattle.kernel.specs.Sound.{Sound}
use Rattle.laws_words.proofs.Fresh.{fresh_sound}
use Rattle.pace.proofs.runs.run.Goals as goal

pub loop-asked-init : goal.loop-asked-init
loop-asked-init c = subst (λ (s : State). Sound s.words) (sym c.fresh.ensures) fresh_sound
