-- **Demand 3** of a trace. Assumes nothing.
use Rattle.std.specs.Prelude.{◌≡◌, true, List, ℕ}
use Rattle.std.proofs.Math.Option.{Option, some}
use Rattle.laws_runs.specs.Trace.{Event, accepted, Throughout, message, asks}
use Rattle.laws_runs.specs.Messages.{Act, log, size_of, opened}

-- There is such a message, and it was shown, whole.
pub record Gave (message shown : Option (List ℕ)) : Type 0 where
  pub bytes : List ℕ
  pub message_is : message ≡ some bytes
  pub shown_is : shown ≡ some bytes

-- The event e is an accepted showing of channel c, plain or by the screen call.
pub record Showed (c : ℕ) (e : Event) : Type 0 where
  pub instead : List ℕ
  pub asked : asks e.call ≡ message c instead
  pub taken : accepted e ≡ true

-- Every accepted showing gives, whole, the message that f finds, for the channel's message size, the task that is shown it and the log of
-- the channel before.
abbrev pub ShownBy : (ℕ → ℕ → List Act → Option (List ℕ)) → List Event → Type 0
ShownBy f = Throughout (λ e before. (c : ℕ) → Showed c e → Gave (f (size_of c before) e.who (log c before)) e.shown)

-- **Whole**: that is the message of the last put on that channel before that reading was opened.
abbrev pub Whole : List Event → Type 0
Whole = ShownBy opened
