-- Kernels that cheat on channels, each the honest one but for what some calls do, and for each a run that gives it away. Assumes nothing.
use Rattle.std.specs.Prelude.{cond, not, ◌&&◌, List, [], ◌∷◌, ◌++◌, ℕ, replicate, Some}
use Rattle.std.proofs.Math.Option.{Option, none, some}
use Rattle.kernel.specs.declared.Session.TheVariants.{Write}
use Rattle.kernel.specs.Sizes.{task_count, memory_size}
use Rattle.kernel.specs.Kernel.{Kernel, channel, lowest, with_channel}
use Rattle.kernel.specs.Channels as Channels
use Rattle.kernel.specs.Channels.{buffer_start, over, own, with_own, buffer, put_before, is_latest, some_session}
use Rattle.kernel.specs.Calls as Calls
use Rattle.kernel.specs.Calls.{create_nrt, activate, sleep, open_channel, begin_write, piece, put, begin_reading, showing, Call, verb, on_channel, Shown, part, Effect, effect}
use Rattle.kernel.specs.Refusals.{Handed, first, rows}
use Rattle.kernel.specs.Step.{Outcome, by_table}
use Rattle.laws_runs.specs.Trace.{Event, Ask, new, does, message, nothing, begins_write, writes, puts, begins_reading, asks}
use Rattle.laws_runs.specs.Run.{trace}

-- What a fraud makes of the effect of a call that is handed h and asks this.
abbrev pub Fraud : Type 0
Fraud = Ask → Handed → Effect → Effect

-- The kernel with this fraud. It refuses what the honest one refuses.
unfoldable pub cheating : Fraud → Call → Handed → Outcome
cheating fraud c h = by_table (first (rows c h)) (fraud (asks c) h (effect c h.kernel h.memory)) h

abbrev pub with_kernel : Effect → Kernel → Effect
with_kernel e k = record { number = e.number; shown = e.shown; instead = e.instead; kernel = k; memory = e.memory }

abbrev pub with_memory : Effect → List ℕ → Effect
with_memory e m = record { number = e.number; shown = e.shown; instead = e.instead; kernel = e.kernel; memory = m }

abbrev pub with_shown : Effect → Shown → Effect
with_shown e x = record { number = e.number; shown = x; instead = e.instead; kernel = e.kernel; memory = e.memory }

-- ---- the frauds

-- A reading always shows the first message: after that, a put leaves the channel's record as it was.
unfoldable pub shows_first : Fraud
shows_first (new n) h e = e
shows_first (does c begins_write) h e = e
shows_first (does c (writes a bs)) h e = e
shows_first (does c puts) h e = cond (put_before (channel h.kernel c).latest) (with_kernel e (with_channel e.kernel c (channel h.kernel c))) e
shows_first (does c begins_reading) h e = e
shows_first (message c text) h e = e
shows_first nothing h e = e

-- A reading shows zeros: those of a buffer that nobody uses.
unfoldable pub shows_zeros : Fraud
shows_zeros (new n) h e = e
shows_zeros (does c d) h e = e
shows_zeros (message c text) h e = with_shown e (part (buffer_start 3 7) (channel h.kernel c).size)
shows_zeros nothing h e = e

-- A showing is accepted and shows nothing.
unfoldable pub shows_nothing : Fraud
shows_nothing (new n) h e = e
shows_nothing (does c d) h e = e
shows_nothing (message c text) h e = with_shown e Calls.nothing
shows_nothing nothing h e = e

-- A write publishes at its first piece, and its put is for show.
abbrev with_latest : Kernel → ℕ → ℕ → Kernel
with_latest k c b = with_channel k c (record { size = (channel k c).size; buffers = (channel k c).buffers; latest = Some b })

unfoldable pub publishes_early : Fraud
publishes_early (new n) h e = e
publishes_early (does c begins_write) h e = e
publishes_early (does c (writes a bs)) h e = with_kernel e (with_latest e.kernel c (buffer (own h.kernel c)))
publishes_early (does c puts) h e = with_kernel e (with_channel e.kernel c (channel h.kernel c))
publishes_early (does c begins_reading) h e = e
publishes_early (message c text) h e = e
publishes_early nothing h e = e

-- Begin write takes a buffer that is still read.
unwatched : Kernel → ℕ → ℕ
unwatched k c = lowest (channel k c).buffers (λ b. not (is_latest (channel k c).latest b) && not (some_session (Channels.writes b) task_count k c))

unfoldable pub takes_read_buffer : Fraud
unfolding unwatched
takes_read_buffer (new n) h e = e
takes_read_buffer (does c begins_write) h e =
    let k = h.kernel in
    let b = unwatched k c in
    with_memory (with_kernel e (with_own k c (Write b))) (over h.memory (buffer_start c b) (replicate (channel k c).size 0))
takes_read_buffer (does c (writes a bs)) h e = e
takes_read_buffer (does c puts) h e = e
takes_read_buffer (does c begins_reading) h e = e
takes_read_buffer (message c text) h e = e
takes_read_buffer nothing h e = e

-- Begin write keeps the bytes of an earlier message.
unfoldable pub keeps_old_bytes : Fraud
keeps_old_bytes (new n) h e = e
keeps_old_bytes (does c begins_write) h e = with_memory e h.memory
keeps_old_bytes (does c (writes a bs)) h e = e
keeps_old_bytes (does c puts) h e = e
keeps_old_bytes (does c begins_reading) h e = e
keeps_old_bytes (message c text) h e = e
keeps_old_bytes nothing h e = e

-- ---- runs that give them away

-- The kernel with this fraud, lent this memory, makes these calls, newest first, and then a showing on channel 0. That gives this, and this
-- is the message that demand 3 asks for.
pub record Case : Type 0 where
  pub fraud : Fraud
  pub memory : List ℕ
  pub calls : List Call
  pub shown : Option (List ℕ)
  pub due : Option (List ℕ)

abbrev pub run : Case → List Event
run x = trace (cheating x.fraud) x.memory (on_channel (showing 0) ∷ x.calls)

-- Before the first call the message memory may hold anything.
abbrev full_of : ℕ → List ℕ
full_of byte = replicate memory_size byte

abbrev write : List ℕ → List Call
write bs = on_channel (put 0) ∷ on_channel (piece 0 0 bs) ∷ on_channel (begin_write 0) ∷ []

-- The main task puts 1, 2 and then 5, 6, in messages of four bytes.
abbrev two_puts : List Call
two_puts = write (5 ∷ 6 ∷ []) ++ (write (1 ∷ 2 ∷ []) ++ (verb (create_nrt 1) ∷ on_channel (open_channel 4 3) ∷ []))

abbrev message_of : ℕ → ℕ → Option (List ℕ)
message_of a b = some (a ∷ b ∷ 0 ∷ 0 ∷ [])

-- It opens a reading.
unfoldable pub first_message : Case
first_message = record { fraud = shows_first; memory = full_of 7; calls = on_channel (begin_reading 0) ∷ two_puts; shown = message_of 1 2; due = message_of 5 6 }

unfoldable pub zeros : Case
zeros = record { fraud = shows_zeros; memory = full_of 0; calls = on_channel (begin_reading 0) ∷ two_puts; shown = message_of 0 0; due = message_of 5 6 }

unfoldable pub no_message : Case
no_message = record { fraud = shows_nothing; memory = full_of 7; calls = on_channel (begin_reading 0) ∷ two_puts; shown = none; due = message_of 5 6 }

-- It writes 9, and before it puts that, task 1 opens a reading.
unfoldable pub early : Case
early =
    record {
      fraud = publishes_early;
      memory = full_of 7;
      calls = on_channel (begin_reading 0) ∷ verb (activate 1) ∷ on_channel (piece 0 0 (9 ∷ [])) ∷ on_channel (begin_write 0) ∷ two_puts;
      shown = message_of 9 0;
      due = message_of 5 6;
    }

-- Task 1 opens a reading, and the main task puts 9 and begins a further write.
unfoldable pub overwritten : Case
overwritten =
    record {
      fraud = takes_read_buffer;
      memory = full_of 7;
      calls = verb (activate 1) ∷ on_channel (begin_write 0) ∷ write (9 ∷ []) ++ (verb sleep ∷ on_channel (begin_reading 0) ∷ verb (activate 1) ∷ two_puts);
      shown = message_of 0 0;
      due = message_of 5 6;
    }

-- It puts a third message, into which it has written nothing.
unfoldable pub old_bytes : Case
old_bytes =
    record {
      fraud = keeps_old_bytes;
      memory = full_of 0;
      calls = on_channel (begin_reading 0) ∷ on_channel (put 0) ∷ on_channel (begin_write 0) ∷ write (5 ∷ 6 ∷ []) ++ (write (1 ∷ 2 ∷ []) ++ (on_channel (open_channel 4 2) ∷ []));
      shown = message_of 1 2;
      due = message_of 0 0;
    }

unfoldable pub cases : List Case
cases = first_message ∷ zeros ∷ no_message ∷ early ∷ overwritten ∷ old_bytes ∷ []
