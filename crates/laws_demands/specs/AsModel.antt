-- A run of the public functions that goes as the model's run does. Assumes nothing.
use Rattle.std.specs.Prelude.{◌≡◌, List, map, ℕ}
use Rattle.kernel.specs.declared.State.{State}
use Rattle.kernel.specs.Calls.{Call}
use Rattle.kernel.specs.Step.{step}
use Rattle.kernel.specs.Seen.{seen}
use Rattle.kernel.specs.Sound.{Sound}
use Rattle.laws_runs.specs.Trace.{Event}
use Rattle.laws_runs.specs.Run.{after, trace}

-- The calls of a trace.
abbrev pub calls : List Event → List Call
calls = map (λ (e : Event). e.call)

-- From the memory m on, the functions have come to state s and memory n by the events h, asides left out: the state is sound, the kernel that
-- is seen in it and the memory are those of the model behind the same calls, and so are the events: who ran, what was answered, what was shown.
pub record AsModel (m : List ℕ) (s : State) (n : List ℕ) (h : List Event) : Type 0 where
  pub sound : Sound s.words
  pub kernel_is : seen s.words ≡ (after step m (calls h)).kernel
  pub memory_is : n ≡ (after step m (calls h)).memory
  pub trace_is : h ≡ trace step m (calls h)
