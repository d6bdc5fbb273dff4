-- When the function `tick` stops the kernel, and what it changes then, by its own contract. Assumes nothing.
use mathlib.Core.Path.{◌≡◌, subst}
use mathlib.Core.Logic.{◌↔◌}
use mathlib.Core.List.{List}
use mathlib.Core.Option.{Option}
use Prim.Native.Nat.{ℕ}
use Rattle.kernel.specs.declared.Stop.{Stop}
use Rattle.kernel.specs.declared.Stop.TheVariants.{Going}
use Rattle.kernel.specs.declared.State.{State}
use Rattle.kernel.specs.declared.Reply.{Reply}
use Rattle.kernel.specs.Calls.{tick, verb}
use Rattle.kernel.specs.Seen.{seen}
use Rattle.kernel.specs.Sound.{Sound}
use Rattle.laws_promises.specs.Stops.{Reason, StopOnly}
use Rattle.laws_promises.proofs.Stops as Stops
use Rattle.laws_demands.specs.Functions.{Made}
use Rattle.laws_demands.proofs.Functions.{promised}

module _ {s : State} {m : List ℕ} {r : Reply} {left : List ℕ} {shown : Option (List ℕ)} (p : Made s m r (verb tick) left shown) (going : (seen s.words).stop ≡ Going) where
  -- **stops_exactly**: a tick on a sound state stops, or goes on, exactly where document 01 says so.
  pub stops_exactly : Sound s.words → (w : Stop) → ((seen r.state.words).stop ≡ w) ↔ Reason (seen s.words) w
  stops_exactly = Stops.stops_exactly (promised p).answered going

  -- **stop_only**: on any state that is not stopped, a tick that stops changes only clock and stop reason.
  pub stop_only : ((seen r.state.words).stop ≡ Going → ⊥) → StopOnly s m r left
  stop_only stops = let q = promised p in subst (λ (y : List ℕ). StopOnly s y r left) q.lent (Stops.stop_only q.answered going stops)
