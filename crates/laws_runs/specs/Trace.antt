-- A trace: what each call was, who ran, and what it answered or showed, newest first. Nothing here knows of buffers, of sessions or of
-- any other inner state. Assumes nothing.
use Rattle.std.specs.Prelude.{◌≡◌, Bool, true, false, cond, not, List, [], ◌∷◌, ℕ}
use Rattle.std.proofs.Math.Option.{Option}
use Rattle.kernel.specs.Answer.{Said}
use Rattle.kernel.specs.Calls.{open_channel, begin_write, piece, put, begin_reading, showing, close, screen, Call, verb, question, on_channel}

-- Task `who` ran, this call was made, it gave this answer, and it handed back these bytes, if any. An aside is a refused call that may have
-- been handed another state or another memory than the run had come to; who ran is then told by that state.
pub record Event : Type 0 where
  pub who : ℕ
  pub call : Call
  pub answer : Said
  pub shown : Option (List ℕ)
  pub aside : Bool

abbrev pub accepted : Event → Bool
accepted e = not e.answer.refusal

-- P holds of each event of the trace and what was before it.
abbrev pub Throughout : (Event → List Event → Type 0) → List Event → Type 0
Throughout P [] = Unit {0}
Throughout P (e ∷ h) = P e h × Throughout P h

-- The run's own events: those that are no asides.
abbrev pub own_events : List Event → List Event
own_events [] = []
own_events (e ∷ h) = cond e.aside (own_events h) (e ∷ own_events h)

-- Every aside is a refusal.
abbrev pub AsidesRefused : List Event → Type 0
AsidesRefused = Throughout (λ e before. e.aside ≡ true → accepted e ≡ false)

-- What a message hangs on: a task begins a write, writes bytes at an offset, puts, or begins a reading.
pub data Deed : Type 0 where
  begins_write : Deed
  writes : (offset : ℕ) → (bytes : List ℕ) → Deed
  puts : Deed
  begins_reading : Deed

-- What a call asks of channels: a new one for messages of a size, a deed on one, the message of a reading on one or else these bytes,
-- or nothing of those.
pub data Ask : Type 0 where
  new : (size : ℕ) → Ask
  does : (channel : ℕ) → Deed → Ask
  message : (channel : ℕ) → (instead : List ℕ) → Ask
  nothing : Ask

abbrev pub asks : Call → Ask
asks (verb v) = nothing
asks (question q) = nothing
asks (on_channel (open_channel n b)) = new n
asks (on_channel (begin_write c)) = does c begins_write
asks (on_channel (piece c a bs)) = does c (writes a bs)
asks (on_channel (put c)) = does c puts
asks (on_channel (begin_reading c)) = does c begins_reading
asks (on_channel (showing c)) = message c []
asks (on_channel (close c)) = nothing
asks (on_channel (screen c text)) = message c text

-- What is handed back instead of a message.
abbrev pub instead : Ask → List ℕ
instead (new n) = []
instead (does c d) = []
instead (message c text) = text
instead nothing = []
