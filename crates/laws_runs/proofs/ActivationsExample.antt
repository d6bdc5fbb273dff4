-- What `once_a_period` asks for can be met, and a period is enough: a task with period 4 is activated at 0 and, having slept, at 4. Assumes nothing.
use mathlib.Core.Path.{◌≡◌, refl}
use mathlib.Core.List.{List, [], ◌∷◌, ◌++◌}
use Prim.Native.Nat.{ℕ}
use Rattle.kernel.specs.Sizes.{fitting}
use Rattle.kernel.specs.Kernel.{share, lowest}
use Rattle.kernel.specs.Moves.{move, dispatch, preempt, schedule}
use Rattle.kernel.specs.Tick as Tick
use Rattle.kernel.specs.Tasks as Tasks
use Rattle.kernel.specs.Calls.{tick, create_hard, activate, sleep, Call, verb, effect}
use Rattle.kernel.specs.Step.{step}
use Rattle.kernel.specs.Fresh.{fresh}
use Rattle.laws_runs.specs.Run.{after, kernel_after}
use Rattle.laws_runs.proofs.Activations.{Takes}

abbrev before : List Call
before = verb (create_hard 4 1) ∷ []

abbrev between : List Call
between = verb tick ∷ verb tick ∷ verb tick ∷ verb sleep ∷ verb tick ∷ []

pub a_period_apart : (m : List ℕ)
    → Takes m (verb (activate 1)) before × Takes m (verb (activate 1)) (between ++ verb (activate 1) ∷ before) × ((kernel_after step m (between ++ verb (activate 1) ∷ before)).clock ≡ 4)
unfolding after fresh step effect fitting share lowest move dispatch preempt schedule Tick.free_zombies Tick.wake_idle Tick.tick Tasks.lowest_free Tasks.create Tasks.activate Tasks.sleep
a_period_apart m = (refl, refl, refl)
