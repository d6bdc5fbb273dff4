-- A tick keeps the kernel good. Assumes nothing.
use mathlib.Core.Path.{◌≡◌, refl, sym, subst}
use mathlib.Core.Bool.{Bool, true, false, cond}
use Prim.Native.Nat.{◌+◌, ◌<◌}
use native.Mathlib.Omega.{arith}
use lib.Dec.{eqb}
use borrow.Author.Tests.{eqb-true, eqb-false}
use Rattle.kernel.specs.declared.Stop.TheVariants.{Overrun, Lifetime}
use Rattle.kernel.specs.Sizes.{lifetime}
use Rattle.kernel.specs.Status.{idle_queue, zombie_queue, stop_number}
use Rattle.kernel.specs.Kernel.{Kernel, queue, with_clock, with_stop}
use Rattle.kernel.specs.Moves.{schedule}
use Rattle.kernel.specs.Tick.{wake, any_due, free_zombies, wake_idle, overrun, tick}
use Rattle.kernel.specs.Good.{Good}
use Rattle.kernel.proofs.Deadlines.{before_lifetime}
use Rattle.kernel.proofs.Decided.{either}
use Rattle.laws_effects.specs.UnderWay.{Freeing}
use Rattle.laws_effects.proofs.Steady.{earliest, good}
use Rattle.laws_effects.proofs.Processor.{scheduled}
use Rattle.laws_effects.proofs.Sweep.{swept, none_any, sweep_none, all_swept}
use Rattle.laws_effects.proofs.Ticking.{stopped, begins, goes_on}
use Rattle.laws_effects.proofs.Due.{frees, wakes}

-- Where none wakes the running task is still the earliest; else there is a schedule.
wake_idle_good : {k : Kernel} → Freeing k → Good (wake_idle k)
unfolding wake_idle
wake_idle_good {k} p = go (any_due k (queue k idle_queue)) refl
  where
    go : (b : Bool) → any_due k (queue k idle_queue) ≡ b → Good (cond b (schedule (swept wake idle_queue k)) (swept wake idle_queue k))
    go true e = let w = all_swept wakes k (queue k idle_queue) p.0 refl in scheduled (goes_on w.0 w.1) w.0.running
    go false e =
        let none = none_any k (queue k idle_queue) e in
        subst Good (sym (sweep_none k wake (queue k idle_queue) none)) (good (goes_on p.0 none) p.0.running p.1)

module _ {k : Kernel} (g : Good k) (going : stop_number k.stop ≡ 0) where
  abbrev j : Kernel
  j = with_clock k (k.clock + 1)

  -- What holds of each of the two stops and of a tick that goes on holds of a tick.
  pub each_tick : (Q : Kernel → Type 0) → (k.clock + 1 ≡ lifetime → Q (with_stop j Lifetime)) → (k.clock + 1 < lifetime → Q (with_stop j Overrun))
      → (Freeing j → Q (wake_idle (free_zombies j))) → Q (tick k)
  unfolding tick
  each_tick Q expires overruns goes =
      either Q (eqb (k.clock + 1) lifetime) (λ e. expires (eqb-true (k.clock + 1) lifetime e))
      (λ e.
      let l : k.clock + 1 < lifetime = omega (arith, before_lifetime g going, eqb-false (k.clock + 1) lifetime e) in
      either Q (overrun j) (λ o. overruns l) (λ o. goes (begins g going l o, earliest g)))

  -- **ticked**: a tick keeps the kernel good, whether it stops it or not.
  pub ticked : Good (tick k)
  unfolding free_zombies
  ticked =
      each_tick Good (λ z. stopped k (k.clock + 1) Lifetime (omega arith) (omega arith) (omega arith) (omega arith) g)
      (λ l. stopped k (k.clock + 1) Overrun (omega arith) (omega arith) (omega arith) (omega arith) g)
      (λ p. wake_idle_good (all_swept frees j (queue j zombie_queue) p refl).0)
