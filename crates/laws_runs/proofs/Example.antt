-- The example run, computed: its calls leave just its events, and it meets what the theorems ask. Assumes nothing.
use mathlib.Core.Path.{◌≡◌, refl}
use mathlib.Core.Bool.{Bool, cond, not}
use mathlib.Core.List.{List, [], ◌∷◌, ◌++◌, reverse}
use mathlib.Core.Option.{Option, some}
use Prim.Native.Nat.{ℕ, suc}
use lib.ListN.{length}
use Rattle.kernel.specs.Sizes.{fitting}
use Rattle.kernel.specs.Kernel.{share, lowest}
use Rattle.kernel.specs.Moves.{move, dispatch, preempt, schedule}
use Rattle.kernel.specs.Tick as Tick
use Rattle.kernel.specs.Tasks as Tasks
use Rattle.kernel.specs.Channels as Channels
use Rattle.kernel.specs.Calls.{effect}
use Rattle.kernel.specs.Step.{step}
use Rattle.kernel.specs.Fresh.{fresh}
use Rattle.laws_runs.specs.Trace.{Event, accepted, Ask, new, does, message, nothing, asks}
use Rattle.laws_runs.specs.Messages.{log, size_of, opened}
use Rattle.laws_runs.specs.Run.{after, trace}
use Rattle.laws_runs.specs.Unput.{finished}
use Rattle.laws_runs.specs.Example.{events, calls, memory}

-- **example**: the model's run of its calls.
pub example : trace step memory calls ≡ reverse events
unfolding after trace fresh step effect fitting share lowest move dispatch preempt schedule Tick.free Tick.wake Tick.free_zombies Tick.wake_idle Tick.tick Tasks.lowest_free Tasks.create Tasks.activate Tasks.sleep Tasks.cycle Tasks.close_sessions Tasks.finish Tasks.end Tasks.kill Channels.some_session Channels.lowest_buffer Channels.lowest_channel Channels.open_channel Channels.begin_write Channels.cleared Channels.written Channels.put Channels.begin_reading Channels.close
example = refl

-- ---- what it meets

-- The messages that demand 3 asks for, one for each accepted showing, newest first.
abbrev wanted : Ask → Event → List Event → List (Option (List ℕ))
wanted (new n) e h = []
wanted (does c d) e h = []
wanted (message c text) e h = cond (accepted e) (opened (size_of c h) e.who (log c h) ∷ []) []
wanted nothing e h = []

abbrev messages : List Event → List (Option (List ℕ))
messages [] = []
messages (e ∷ h) = wanted (asks e.call) e h ++ messages h

pub showings_met : messages (reverse events) ≡ some (5 ∷ 6 ∷ 7 ∷ 8 ∷ []) ∷ some (5 ∷ 6 ∷ 7 ∷ 8 ∷ []) ∷ some (1 ∷ 2 ∷ 3 ∷ 4 ∷ []) ∷ []
showings_met = refl

-- Of 16 deeds on the channel 6 are of writes that were never put.
pub unput_met : (length (log 0 (reverse events)) ≡ 16) × (length (finished (log 0 (reverse events))) ≡ 10)
unput_met = (refl, refl)

-- So many events of the list are such.
abbrev count : (Event → Bool) → List Event → ℕ
count p [] = 0
count p (e ∷ h) = cond (p e) (suc (count p h)) (count p h)

-- Calls are accepted, and calls are refused.
pub answers_met : (count accepted events ≡ 37) × (count (λ e. not (accepted e)) events ≡ 5)
answers_met = (refl, refl)
