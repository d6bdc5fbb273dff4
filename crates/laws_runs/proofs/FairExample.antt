-- A run in which a task joins another in ready with the same deadline: what `first_joined` asks is met. Assumes nothing.
use mathlib.Core.Path.{refl}
use mathlib.Core.List.{List, [], ◌∷◌}
use Prim.Native.Nat.{ℕ}
use native.Mathlib.Omega.{arith}
use Rattle.kernel.specs.Kernel.{lowest}
use Rattle.kernel.specs.Moves.{move, dispatch, preempt, schedule}
use Rattle.kernel.specs.Tick as Tick
use Rattle.kernel.specs.Tasks as Tasks
use Rattle.kernel.specs.Calls.{tick, create_nrt, activate, verb, effect}
use Rattle.kernel.specs.Step.{step}
use Rattle.kernel.specs.Fresh.{fresh}
use Rattle.laws_runs.specs.Run.{after}
use Rattle.laws_runs.specs.Fair.{JoinedFirst}

-- Task 1 runs; task 2 joins ready, then task 3, both NRT of its priority; then there is a tick.
pub joined_first : (m : List ℕ) → JoinedFirst step m 2 3 (verb (activate 2) ∷ verb (activate 1) ∷ verb (create_nrt 3) ∷ verb (create_nrt 3) ∷ verb (create_nrt 3) ∷ []) (verb (activate 3)) (verb tick ∷ [])
unfolding after fresh step effect lowest move dispatch preempt schedule Tick.free_zombies Tick.wake_idle Tick.tick Tasks.lowest_free Tasks.create Tasks.activate
joined_first m =
    record {
      was_ready = record { is_task = omega arith; status = refl };
      not_yet = λ h. let z = h.status in omega arith;
      no_later = omega arith;
      first_since = (record { is_task = omega arith; status = refl }, record { is_task = omega arith; status = refl });
      second_since = (record { is_task = omega arith; status = refl }, record { is_task = omega arith; status = refl });
    }
