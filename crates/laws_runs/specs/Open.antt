-- Demand 3 is not empty: what a task has open on a channel, as the trace tells, and by that, when its calls are accepted. Assumes nothing.
use Rattle.std.specs.Prelude.{◌≡◌, Bool, true, false, cond, ◌&&◌, List, [], ◌∷◌, ℕ, ◌+◌, ◌<◌, length, leb, eqb}
use Rattle.std.proofs.Math.Option.{Option, none, some}
use Rattle.kernel.specs.Answer.{refused, minus}
use Rattle.kernel.specs.Sizes.{channel_count}
use Rattle.kernel.specs.Calls.{Verb, tick, create_hard, create_nrt, activate, sleep, cycle, end, kill, new_semaphore, delete, wait, signal, open_channel, begin_write, piece, put, begin_reading, showing, close, screen, Call, verb, question, on_channel}
use Rattle.laws_runs.specs.Trace.{Event, accepted, Throughout}
use Rattle.laws_runs.specs.Messages.{log, size_of, last_put}

-- ---- what a task has open

pub data Open : Type 0 where
  no_session : Open
  a_write : Open
  a_reading : Open

abbrev pub closed : Open → Bool
closed no_session = true
closed a_write = false
closed a_reading = false

abbrev pub writing : Open → Bool
writing no_session = false
writing a_write = true
writing a_reading = false

abbrev pub reading : Open → Bool
reading no_session = false
reading a_write = false
reading a_reading = true

-- Whether task t's sessions end with an accepted verb of task w: end ends all of the task that makes it, kill all of the task that it names.
abbrev pub ends : ℕ → ℕ → Verb → Bool
ends t w tick = false
ends t w (create_hard p c) = false
ends t w (create_nrt p) = false
ends t w (activate n) = false
ends t w sleep = false
ends t w cycle = false
ends t w end = eqb t w
ends t w (kill n) = eqb t n
ends t w (new_semaphore n) = false
ends t w (delete s) = false
ends t w (wait s) = false
ends t w (signal s) = false

-- What task t has open on channel c behind an accepted call of task w, where it had o: a begin opens a session, put and close end it.
abbrev pub left_open : ℕ → ℕ → ℕ → Call → Open → Open
left_open t c w (verb v) o = cond (ends t w v) no_session o
left_open t c w (question q) o = o
left_open t c w (on_channel (open_channel n b)) o = o
left_open t c w (on_channel (begin_write d)) o = cond (eqb c d && eqb t w) a_write o
left_open t c w (on_channel (piece d a bs)) o = o
left_open t c w (on_channel (put d)) o = cond (eqb c d && eqb t w) no_session o
left_open t c w (on_channel (begin_reading d)) o = cond (eqb c d && eqb t w) a_reading o
left_open t c w (on_channel (showing d)) o = o
left_open t c w (on_channel (close d)) o = cond (eqb c d && eqb t w) no_session o
left_open t c w (on_channel (screen d text)) o = o

-- What task t has open on channel c behind the trace.
abbrev pub open_by : ℕ → ℕ → List Event → Open
open_by t c [] = no_session
open_by t c (e ∷ h) = cond (accepted e) (left_open t c e.who e.call (open_by t c h)) (open_by t c h)

-- ---- which calls are accepted

-- The event e is no refusal by a kernel that has stopped.
abbrev pub Going : Event → Type 0
Going e = (e.answer ≡ refused (minus 1) → ⊥) × (e.answer ≡ refused (minus 2) → ⊥)

-- There is a message.
abbrev pub was_put : Option (List ℕ) → Bool
was_put none = false
was_put (some bs) = true

-- When the call of event e is accepted, by what was before it.
pub record Exact (e : Event) (before : List Event) : Type 0 where
  -- a begin write: at least where the channel is open and no task has a session there
  pub writes : (c : ℕ) → e.call ≡ on_channel (begin_write c) → c < channel_count → (size_of c before ≡ 0 → ⊥) → ((t : ℕ) → open_by t c before ≡ no_session) → accepted e ≡ true
  -- a piece: exactly where its task has a write open and it ends inside the message; a put: where its task has a write open
  pub pieces : (c a : ℕ) (bs : List ℕ) → e.call ≡ on_channel (piece c a bs) → accepted e ≡ (writing (open_by e.who c before) && leb (a + length bs) (size_of c before))
  pub puts : (c : ℕ) → e.call ≡ on_channel (put c) → accepted e ≡ writing (open_by e.who c before)
  -- a begin reading: exactly where its task has no session open and something was put
  pub readings : (c : ℕ) → e.call ≡ on_channel (begin_reading c) → accepted e ≡ (closed (open_by e.who c before) && was_put (last_put (size_of c before) (log c before)))
  -- a showing, a screen call and a close: exactly where the task has a reading open
  pub showings : (c : ℕ) → e.call ≡ on_channel (showing c) → accepted e ≡ reading (open_by e.who c before)
  pub screens : (c : ℕ) (text : List ℕ) → e.call ≡ on_channel (screen c text) → accepted e ≡ reading (open_by e.who c before)
  pub closes : (c : ℕ) → e.call ≡ on_channel (close c) → accepted e ≡ reading (open_by e.who c before)

-- **Exactly**: so it is of every call, until the kernel stops. Of an aside the trace does not tell what it was
-- handed; it is a refusal (`AsidesRefused`).
abbrev pub Exactly : List Event → Type 0
Exactly = Throughout (λ e before. e.aside ≡ false → Going e → Exact e before)
