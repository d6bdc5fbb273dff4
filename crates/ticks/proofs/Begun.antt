-- What holds while a legal tick that does not stop is under way. Assumes nothing.
use mathlib.Core.Path.{◌≡◌, refl}
use mathlib.Core.Bool.{false}
use mathlib.Core.List.{List}
use Prim.Native.Nat.{ℕ, ◌+◌}
use native.Mathlib.Omega.{arith}
use Rattle.kernel.specs.Sizes.{lifetime}
use Rattle.kernel.specs.Status.{zombie_queue}
use Rattle.kernel.specs.Kernel.{Kernel, queue, with_clock}
use Rattle.kernel.specs.Tick.{free_zombies, overrun}
use Rattle.kernel.specs.Calls.{tick, verb}
use Rattle.kernel.specs.Seen.{seen}
use Rattle.kernel.proofs.Deadlines.{before_lifetime}
use Rattle.laws_effects.specs.UnderWay.{Freeing, Ticking}
use Rattle.laws_effects.proofs.Steady.{earliest}
use Rattle.laws_effects.proofs.Sweep.{all_swept}
use Rattle.laws_effects.proofs.Ticking.{begins}
use Rattle.laws_effects.proofs.Due.{frees}
use Rattle.refusals.specs.Tested.{Legal}
use Rattle.refusals.proofs.Answers.{allows}

pub begun : {w : List ℕ} → Legal (verb tick) w → ((seen w).clock + 1 ≡ lifetime → ⊥) → overrun (with_clock (seen w) ((seen w).clock + 1)) ≡ false
    → Freeing (with_clock (seen w) ((seen w).clock + 1))
begun {w} h ne e =
    let g = h.sound.good in
    let going = (allows h).going in
    (begins g going (omega (arith, before_lifetime g going)) e, earliest g)

pub zombies_gone : {k : Kernel} → Freeing k → Ticking (free_zombies k)
unfolding free_zombies
zombies_gone {k} p = (all_swept frees k (queue k zombie_queue) p refl).0.0
