-- That channels and memory hold what the trace tells: what it means, and what it asks of a log. Assumes nothing.
use mathlib.Core.Path.{◌≡◌, refl, sym, ap, ◌∙◌}
use mathlib.Core.List.{List, [], ◌∷◌}
use mathlib.Core.Option.{Option, none, some}
use mathlib.Core.Logic.{inl, inr}
use Prim.Native.Nat.{ℕ, ◌<◌}
use native.Mathlib.Omega.{arith}
use borrow.Author.Tests.{ne_eqb}
use Rattle.std.specs.declared.option.Option.{Option as Latest}
use Rattle.std.specs.Prelude.{None, Some}
use Rattle.kernel.specs.declared.Session.{Session}
use Rattle.kernel.specs.declared.Session.TheVariants.{Closed, Write, Reading}
use Rattle.kernel.specs.Sizes.{task_count}
use Rattle.kernel.specs.Kernel.{Kernel}
use Rattle.kernel.specs.Good.{Opens}
use Rattle.laws_runs.specs.Trace.{Event, Deed, begins_write, writes, puts, begins_reading}
use Rattle.laws_runs.specs.Messages.{Act, ◌did◌, log, size_of, written, last_put, opened}
use Rattle.laws_runs.specs.Open.{Open, no_session, a_write, a_reading, open_by}
use Rattle.laws_runs.proofs.Changed.{View, view, Seen}
use Rattle.laws_runs.proofs.Buffers.{bytes_in}

-- A session without its buffer.
abbrev pub kind : Session → Open
kind Closed = no_session
kind (Write b) = a_write
kind (Reading b) = a_reading

-- The message in the latest buffer, where `bytes_in` says what bytes a buffer has.
abbrev pub message_in : Latest ℕ → (ℕ → List ℕ) → Option (List ℕ)
message_in None bytes_in = none
message_in (Some b) bytes_in = some (bytes_in b)

-- On a channel for messages of n bytes whose log is h: the buffer of a write holds what its task has written, that of a reading the message
-- of the last put before it was opened.
abbrev pub Carries : ℕ → List Act → (ℕ → List ℕ) → ℕ → Session → Type 0
Carries n h bytes_in t Closed = Unit {0}
Carries n h bytes_in t (Write b) = written n t h ≡ bytes_in b
Carries n h bytes_in t (Reading b) = opened n t h ≡ some (bytes_in b)

-- What is seen of the channels, and the memory m, are what the trace tells: the message sizes, the latest messages, what the buffers of
-- sessions hold, and which sessions are open.
pub record Told (h : List Event) (v : View) (m : List ℕ) : Type 0 where
  pub size : (c : ℕ) → v.size c ≡ size_of c h
  pub latest : (c : ℕ) → last_put (v.size c) (log c h) ≡ message_in (v.latest c) (bytes_in m c (v.size c))
  pub carries : (c t : ℕ) → t < task_count → Carries (v.size c) (log c h) (bytes_in m c (v.size c)) t (v.session c t)
  pub open_is : (c t : ℕ) → t < task_count → open_by t c h ≡ kind (v.session c t)

-- So they are of a kernel of which that is seen.
pub seen_told : {h : List Event} {v : View} {m : List ℕ} {j : Kernel} → Seen v j → Told h v m → Told h (view j) m
seen_told {h} {v} {m} {j} s told =
    record {
      size = λ c. s.size_is c ∙ told.size c;
      latest = λ c. rw (s.size_is c, s.latest_is c) (told.latest c);
      carries = λ c t l. rw (s.size_is c, s.session_is c t l) (told.carries c t l);
      open_is = λ c t l. told.open_is c t l ∙ ap kind (sym (s.session_is c t l));
    }

-- ---- what a log says

-- What another task does leaves what a task has written, and what it read.
module _ (n u t : ℕ) (other : u ≡ t → ⊥) (h : List Act) where
  written_other : (d : Deed) → written n u (t did d ∷ h) ≡ written n u h
  written_other begins_write = rw (ne_eqb u t other)
  written_other (writes a bs) = rw (ne_eqb u t other)
  written_other puts = refl
  written_other begins_reading = refl

  opened_other : (d : Deed) → opened n u (t did d ∷ h) ≡ opened n u h
  opened_other begins_write = refl
  opened_other (writes a bs) = refl
  opened_other puts = refl
  opened_other begins_reading = rw (ne_eqb u t other)

  pub carries_other : (d : Deed) (bytes_in : ℕ → List ℕ) (z : Session) → Carries n h bytes_in u z → Carries n (t did d ∷ h) bytes_in u z
  carries_other d bytes_in Closed e = tt
  carries_other d bytes_in (Write b) e = written_other d ∙ e
  carries_other d bytes_in (Reading b) e = opened_other d ∙ e

-- Buffers that are not held may hold anything.
pub carries_still : (n : ℕ) (h : List Act) (bytes_in bytes_in' : ℕ → List ℕ) (t : ℕ) (z : Session) → ((b : ℕ) → Opens z b → bytes_in' b ≡ bytes_in b) → Carries n h bytes_in t z → Carries n h bytes_in' t z
carries_still n h bytes_in bytes_in' t Closed same e = tt
carries_still n h bytes_in bytes_in' t (Write b) same e = e ∙ sym (same b (inl refl))
carries_still n h bytes_in bytes_in' t (Reading b) same e = e ∙ ap some (sym (same b (inr refl)))

pub message_still : {bytes_in bytes_in' : ℕ → List ℕ} (x : Latest ℕ) → ((b : ℕ) → x ≡ Some b → bytes_in' b ≡ bytes_in b) → message_in x bytes_in ≡ message_in x bytes_in'
message_still None same = refl
message_still (Some b) same = ap some (sym (same b refl))

-- That nothing was put does not hang on the size.
pub none_put : (n s : ℕ) (h : List Act) → last_put n h ≡ none → last_put s h ≡ none
none_put n s [] e = refl
none_put n s (u did begins_write ∷ h) e = none_put n s h e
none_put n s (u did writes a bs ∷ h) e = none_put n s h e
none_put n s (u did puts ∷ h) e = absurd (let z : ◌≡◌ {A = ℕ} 0 1 = cc in omega arith)
none_put n s (u did begins_reading ∷ h) e = none_put n s h e
