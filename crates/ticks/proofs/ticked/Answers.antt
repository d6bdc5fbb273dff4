-- The clock goes on; then the tick stops the kernel, or the zombies go and IDLE tasks wake. Assumes nothing.
use Rattle.std.proofs.Common.{◌≡◌, ap, sym, subst, ◌∙◌, List, ℕ, ◌+◌, false}
use Rattle.std.proofs.Math.ListN.{set}
use Rattle.kernel.specs.declared.Stop.TheVariants.{Overrun, Lifetime}
use Rattle.kernel.specs.Sizes.{lifetime}
use Rattle.kernel.specs.Kernel.{Kernel, with_clock, with_stop}
use Rattle.kernel.specs.Tick.{free_zombies, wake_idle, overrun}
use Rattle.kernel.specs.Calls.{tick, verb}
use Rattle.kernel.specs.Layout.{word, clock_at}
use Rattle.kernel.specs.Seen.{seen}
use Rattle.kernel.specs.Shows.{Kept, Shows}
use Rattle.kernel.proofs.Shows.{kept, then}
use Rattle.words.proofs.Numbers.{clock_set, stop_set}
use Rattle.laws_effects.specs.UnderWay.{Freeing, Ticking}
use Rattle.refusals.specs.Tested.{Legal}
use Rattle.ticks.proofs.Cases.{expires, overruns, goes}
use Rattle.ticks.proofs.Begun.{begun, zombies_gone}
use Rattle.ticks.proofs.ticked.Goals as goal

-- The kernel whose clock has gone on.
abbrev later : Kernel → Kernel
later k = with_clock k (k.clock + 1)

shown : {w v : List ℕ} {n : ℕ} → Kept w → n ≡ word w clock_at → v ≡ set w clock_at (n + 1) → Shows v (later (seen w))
shown {w} {v} {n} k clock is = rw (sym clock) (subst (λ (u : List ℕ). Shows u (with_clock (seen w) (n + 1))) (sym is) (clock_set _ k))

-- It is not at lifetime, and no task is late.
under_way : {w v : List ℕ} → Legal (verb tick) w → Shows v (later (seen w)) → ((seen w).clock + 1 ≡ lifetime → ⊥) → overrun (seen v) ≡ false → Freeing (seen v)
under_way l s ne e = subst Freeing (sym s.is) (begun l ne (sym (ap (λ (j : Kernel). overrun j) s.is) ∙ e))

pub returns-then-clock-eq-LIFETIME : goal.returns-then-clock-eq-LIFETIME
returns-then-clock-eq-LIFETIME c =
    let s = shown (kept c.requires.sound) c.clock-clock.ensures c.set_clock.ensures in
    rw (c.set_stop.ensures, expires (seen c.args.w.now) (rw c.clock-clock.ensures at c.if-clock-eq-LIFETIME.true))
    (then (λ (j : Kernel). with_stop j Lifetime) s (stop_set Lifetime s.kept))

pub returns-then-overrun : goal.returns-then-overrun
returns-then-overrun c =
    let s = shown (kept c.requires.sound) c.clock-clock.ensures c.set_clock.ensures in
    let is = c.overrun.ensures ∙ ap (λ (j : Kernel). overrun j) s.is in
    rw (c.set_stop-then-overrun.ensures, overruns (seen c.args.w.now) (rw c.clock-clock.ensures at c.if-clock-eq-LIFETIME.false) (sym is ∙ c.if-overrun.true))
    (then (λ (j : Kernel). with_stop j Overrun) s (stop_set Overrun s.kept))

pub free_zombies-requires-clause-kept : goal.free_zombies-requires-clause-kept
free_zombies-requires-clause-kept c = (shown (kept c.requires.sound) c.clock-clock.ensures c.set_clock.ensures).kept

pub free_zombies-requires-clause-freeing : goal.free_zombies-requires-clause-freeing
free_zombies-requires-clause-freeing c =
    under_way c.requires (shown (kept c.requires.sound) c.clock-clock.ensures c.set_clock.ensures) (rw c.clock-clock.ensures at c.if-clock-eq-LIFETIME.false) (sym c.overrun.ensures ∙ c.if-overrun.false)

pub wake_idle-requires-clause-ticking : goal.wake_idle-requires-clause-ticking
wake_idle-requires-clause-ticking c =
    let s = shown (kept c.requires.sound) c.clock-clock.ensures c.set_clock.ensures in
    subst Ticking (sym c.free_zombies.ensures.is)
    (zombies_gone (under_way c.requires s (rw c.clock-clock.ensures at c.if-clock-eq-LIFETIME.false) (sym c.overrun.ensures ∙ c.if-overrun.false)))

pub returns : goal.returns
returns c =
    let s = shown (kept c.requires.sound) c.clock-clock.ensures c.set_clock.ensures in
    let is = c.overrun.ensures ∙ ap (λ (j : Kernel). overrun j) s.is in
    rw (goes (seen c.args.w.now) (rw c.clock-clock.ensures at c.if-clock-eq-LIFETIME.false) (sym is ∙ c.if-overrun.false))
    (then wake_idle (then free_zombies s c.free_zombies.ensures) c.wake_idle.ensures)
