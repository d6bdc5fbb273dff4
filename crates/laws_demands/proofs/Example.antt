-- The example run, of the public functions: it is one, and each theorem over runs holds of it with its premises met. Assumes nothing.
use mathlib.Core.Path.{refl, subst}
use mathlib.Core.Bool.{true}
use mathlib.Core.List.{List, [], ◌∷◌, reverse}
use Prim.Native.Nat.{ℕ}
use lib.ListN.{length-replicate}
use Rattle.kernel.specs.Answer.{minus}
use Rattle.kernel.specs.Sizes.{memory_size}
use Rattle.kernel.specs.Calls.{screen, on_channel}
use Rattle.kernel.specs.Sound.{Sound}
use Rattle.laws_runs.specs.Trace.{Event}
use Rattle.laws_runs.specs.Whole.{Whole}
use Rattle.laws_runs.specs.Unput.{UnputUnseen}
use Rattle.laws_runs.specs.Strokes.{OneStroke}
use Rattle.laws_runs.specs.Open.{Exactly}
use Rattle.laws_runs.specs.Example.{events, calls, memory}
use Rattle.laws_runs.proofs.Example.{example}
use Rattle.laws_demands.specs.Run.{event, Run, aside}
use Rattle.laws_demands.specs.Every.{GivenBy, Played}
use Rattle.laws_demands.proofs.Every.{every_call}
use Rattle.laws_demands.proofs.Played.{every_run}
use Rattle.laws_demands.proofs.Two.{run_sound, refused_exactly}
use Rattle.laws_demands.proofs.Three.{whole_message, exactly_open, unput_unseen, one_stroke}

abbrev played : Played memory calls
played = every_run memory calls

-- Behind it, a screen call is lent a memory of one byte, and refused with -12.
abbrev screened : GivenBy played.state (7 ∷ []) (on_channel (screen 0 (42 ∷ [])))
screened = every_call played.state (7 ∷ []) (on_channel (screen 0 (42 ∷ [])))

abbrev with_aside : List Event
with_aside = event true played.state (on_channel (screen 0 (42 ∷ []))) screened.reply screened.shown ∷ reverse events

run : Run memory played.state played.memory with_aside
run =
    let own = subst (Run memory played.state played.memory) example played.run in
    aside own screened.made ((refused_exactly (run_sound own) screened.made (minus 12)).1 refl)

pub sound : Sound played.state.words
sound = run_sound run

pub whole : Whole with_aside
whole = whole_message run

pub unseen : UnputUnseen with_aside
unseen = unput_unseen run

pub stroke : OneStroke with_aside
stroke = one_stroke run

pub exact : Exactly with_aside
exact = exactly_open run (length-replicate {A = ℕ} memory_size 7)
