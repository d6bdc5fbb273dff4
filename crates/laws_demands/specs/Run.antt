-- A run of the public functions. Assumes nothing.
use Rattle.std.specs.Prelude.{◌≡◌, Bool, true, false, List, [], ◌∷◌, ℕ, ℤ}
use Rattle.std.proofs.Math.Option.{Option}
use Rattle.kernel.specs.declared.State.{State}
use Rattle.kernel.specs.declared.Reply.{Reply}
use Rattle.kernel.specs.Answer.{refused, said}
use Rattle.kernel.specs.Calls.{Call}
use Rattle.kernel.specs.Promise.{runs}
use Rattle.kernel.proofs.State.fresh.Reads.{Post as Fresh}
use Rattle.laws_runs.specs.Trace.{Event}
use Rattle.laws_demands.specs.Functions.{Made}

-- The event of a call that was handed the state s: who ran there, the call, and what it answered and handed back.
abbrev pub event : (aside : Bool) → State → Call → Reply → Option (List ℕ) → Event
event aside s c r shown = record { who = (runs s.words).0; call = c; answer = said r.answer; shown = shown; aside = aside }

-- A run that began with `State::fresh` and the message memory m has come to this state, this memory and this trace. A call is handed the
-- state that the one before gave back, and the memory with the bytes that it left. A refused call may instead be handed any other state and
-- memory; it changes neither, and the run stays where it was. So the one premise of every theorem about runs stands here: no accepted call
-- is handed another state or another memory.
pub data Run (m : List ℕ) : State → (memory : List ℕ) → List Event → Type 0 where
  start : {s : State} → Fresh tt tt s tt → Run m s m []
  call : {s : State} {n : List ℕ} {h : List Event} {c : Call} {r : Reply} {left : List ℕ} {shown : Option (List ℕ)} → Run m s n h → Made s n r c left shown
      → Run m r.state left (event false s c r shown ∷ h)
  aside : {s t : State} {n o : List ℕ} {h : List Event} {c : Call} {r : Reply} {left : List ℕ} {shown : Option (List ℕ)} {x : ℤ} → Run m s n h → Made t o r c left shown
      → said r.answer ≡ refused x
      → Run m s n (event true t c r shown ∷ h)
