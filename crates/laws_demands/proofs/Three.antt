-- **Demand 3**: what is shown in any run, writers and readers interrupted anywhere, from the trace alone. Assumes nothing.
use mathlib.Core.Path.{◌≡◌, sym, subst}
use mathlib.Core.List.{List}
use Prim.Native.Nat.{ℕ}
use lib.ListN.{length}
use Rattle.kernel.specs.declared.State.{State}
use Rattle.kernel.specs.Sizes.{memory_size}
use Rattle.laws_runs.specs.Trace.{Event, own_events}
use Rattle.laws_runs.specs.Messages.{opened}
use Rattle.laws_runs.specs.Whole.{Whole}
use Rattle.laws_runs.specs.Unput.{UnputUnseen}
use Rattle.laws_runs.specs.Strokes.{OneStroke}
use Rattle.laws_runs.specs.Open.{Exactly}
use Rattle.laws_runs.proofs.Whole.{whole}
use Rattle.laws_runs.proofs.Open.{exactly}
use Rattle.laws_runs.proofs.Aside.{shown_own, exactly_own}
use Rattle.laws_runs.proofs.Corollaries as Corollaries
use Rattle.laws_demands.specs.Run.{Run}
use Rattle.laws_demands.specs.AsModel.{calls}
use Rattle.laws_demands.proofs.Model.{as_model, asides_refused}

module _ {m n : List ℕ} {s : State} {h : List Event} (r : Run m s n h) where
  -- **whole_message**: every accepted showing gives, whole, the message of the last put on that channel before that reading was opened.
  pub whole_message : Whole h
  whole_message = shown_own opened h (asides_refused r) (subst Whole (sym (as_model r).trace_is) (whole m (calls (own_events h))))

  -- **exactly_open**: where the memory has its size, the calls within a session, but for asides, are accepted exactly where their task has
  -- that session open.
  pub exactly_open : length m ≡ memory_size → Exactly h
  exactly_open size = exactly_own h (asides_refused r) (subst Exactly (sym (as_model r).trace_is) (exactly m size (calls (own_events h))))

  -- **unput_unseen**: a write that never reaches its put shows in no reading.
  pub unput_unseen : UnputUnseen h
  unput_unseen = Corollaries.unput_unseen h whole_message

  -- **one_stroke**: what is shown is what was taken at the opening of the reading, in one stroke, of what was put, in one stroke.
  pub one_stroke : OneStroke h
  one_stroke = Corollaries.one_stroke h whole_message
