-- A run of the model: calls and ticks in any order, legal and illegal, from the fresh kernel on, each made by whichever task runs.
-- Assumes nothing.
use Rattle.std.specs.Prelude.{true, false, List, [], ◌∷◌, ℕ, take, drop}
use Rattle.std.proofs.Math.Option.{Option, none, some}
use Rattle.kernel.specs.Kernel.{Kernel}
use Rattle.kernel.specs.Calls.{Call, Shown, nothing, part, standby}
use Rattle.kernel.specs.Refusals.{Handed}
use Rattle.kernel.specs.Step.{Outcome}
use Rattle.kernel.specs.Fresh.{fresh}
use Rattle.laws_runs.specs.Trace.{Event, asks, instead}

-- The bytes that are handed back, of this memory and this text.
abbrev pub bytes_of : Shown → List ℕ → List ℕ → Option (List ℕ)
bytes_of nothing m text = none
bytes_of (part a n) m text = some (take n (drop a m))
bytes_of standby m text = some text

-- What goes from call to call.
pub record World : Type 0 where
  pub kernel : Kernel
  pub memory : List ℕ

-- What a call of a run is handed. The state is sound: `run_sound`.
abbrev pub handed : World → Handed
handed w = record { sound = true; kernel = w.kernel; memory = w.memory }

-- The call c, made in w, had the outcome o.
abbrev pub event : Call → World → Outcome → Event
event c w o = record { who = w.kernel.running; call = c; answer = o.answer; shown = bytes_of o.shown w.memory (instead (asks c)); aside = false }

-- Calls newest first, of a fresh kernel that answers as `step` says and is lent the memory m. Kernel and memory go from call to call
-- unaltered, so that there are no asides.
module _ (step : Call → Handed → Outcome) (m : List ℕ) where
  unfoldable pub after : List Call → World
  after [] = record { kernel = fresh; memory = m }
  after (c ∷ cs) = let o = step c (handed (after cs)) in record { kernel = o.kernel; memory = o.memory }

  abbrev pub kernel_after : List Call → Kernel
  kernel_after cs = (after cs).kernel

  unfoldable pub trace : List Call → List Event
  trace [] = []
  trace (c ∷ cs) = event c (after cs) (step c (handed (after cs))) ∷ trace cs
