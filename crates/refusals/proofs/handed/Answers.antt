-- A state that is not sound is refused, and a sound one goes to the call. Assumes nothing.
use Rattle.std.proofs.Common.{subst, sym, rules}
use Rattle.kernel.specs.Promise.{Unlent}
use Rattle.refusals.proofs.Answers.{unlent_unsound, unlent_known}
use Rattle.refusals.proofs.handed.Goals as goal

pub returns-then-not-sound : goal.returns-then-not-sound
returns-then-not-sound g c = λ d p f. subst (Unlent d c.args.s) (sym c.reply.ensures) (unlent_unsound c.sound.ensures c.if-not-sound.true p)

pub returns : goal.returns
returns g c = λ d p f. subst (Unlent d c.args.s) (sym c.reply-2.ensures) (unlent_known c.sound.ensures c.if-not-sound.false (f _ _ (c.sound.ensures.0 c.if-not-sound.false) (search rules)))
