-- What each call leaves of channels and sessions. Assumes nothing.
use mathlib.Core.Path.{◌≡◌, refl, sym, ap, ◌∙◌}
use mathlib.Core.Bool.{cond, ◌&&◌}
use mathlib.Core.List.{List}
use mathlib.Core.Logic.{⊎_elim}
use Prim.Native.Nat.{ℕ, ◌<◌}
use native.Mathlib.Decide.{ℕ_discrete}
use lib.ListN.{get_or}
use lib.Dec.{eqb}
use borrow.Author.Tests.{eq-eqb, ne_eqb}
use Rattle.kernel.specs.declared.Channel.{Channel}
use Rattle.std.specs.declared.option.Option.{Option}
use Rattle.std.specs.Prelude.{None, Some}
use Rattle.kernel.specs.declared.Session.{Session}
use Rattle.kernel.specs.declared.Session.TheVariants.{Closed, Write, Reading}
use Rattle.kernel.specs.declared.Slot.{Slot}
use Rattle.kernel.specs.Sizes.{task_count, channel_count}
use Rattle.kernel.specs.Kernel.{Kernel, channel, session, unused_channel, slot, slot_number, with_channel}
use Rattle.kernel.specs.Moves.{move}
use Rattle.kernel.specs.Tasks as Tasks
use Rattle.kernel.specs.Semaphores as Semaphores
use Rattle.kernel.specs.Channels as Channels
use Rattle.kernel.specs.Channels.{own, with_own, buffer, newest, lowest_buffer, lowest_channel}
use Rattle.kernel.specs.Calls.{Verb, tick, create_hard, create_nrt, activate, sleep, cycle, end, kill, new_semaphore, delete, wait, signal, OnChannel, open_channel, begin_write, piece, put, begin_reading, showing, close, screen, Call, verb, question, on_channel, work, channel_effect, effect}
use Rattle.kernel.specs.Good.{Good}
use Rattle.kernel.proofs.Allowed.{VerbAllowed, ChannelAllowed, Allowed}
use Rattle.kernel.proofs.Stored.{channel_here, channel_there, session_here, session_there}
use Rattle.laws_effects.proofs.Sessions.{without, sessions_closed, session_kept, session_stays}
use Rattle.laws_runs.specs.Open.{ends}
use Rattle.laws_runs.proofs.Beside.{beside, Beside, dispatches, schedules, ticks, waits, signals, ends as ended, kills}
use Rattle.kernel.proofs.Decided.{compared}
use Rattle.laws_runs.proofs.Buffers.{every_number, lowest_unused}

-- What is seen of channels: of each its message size and its latest buffer, and the session that each task has there.
pub record View : Type 0 where
  pub size : ℕ → ℕ
  pub latest : ℕ → Option ℕ
  pub session : ℕ → ℕ → Session

module _ (k : Kernel) where
  abbrev with_sessions : (ℕ → ℕ → Session) → View
  with_sessions z = record { size = λ c. (channel k c).size; latest = λ c. (channel k c).latest; session = z }

  abbrev pub view : View
  view = with_sessions (session k)

  -- The running task gets the session z on channel c.
  abbrev pub gets : ℕ → Session → View
  gets c z = with_sessions (λ d t. cond (eqb d c && eqb t k.running) z (session k d t))

  -- What an accepted call leaves.
  abbrev pub left : Call → View
  left (verb v) = with_sessions (λ c t. cond (ends t k.running v) Closed (session k c t))
  left (question q) = view
  left (on_channel (open_channel n b)) = record { size = λ c. cond (eqb (lowest_channel k) c) n (view.size c); latest = view.latest; session = view.session }
  left (on_channel (begin_write c)) = gets c (Write (lowest_buffer k c))
  left (on_channel (piece c a bs)) = view
  left (on_channel (put c)) = record { size = view.size; latest = λ d. cond (eqb d c) (Some (buffer (own k c))) (view.latest d); session = (gets c Closed).session }
  left (on_channel (begin_reading c)) = gets c (Reading (newest (channel k c).latest))
  left (on_channel (showing c)) = view
  left (on_channel (close c)) = gets c Closed
  left (on_channel (screen c text)) = view

-- The view v is what is seen of the kernel j.
pub record Seen (v : View) (j : Kernel) : Type 0 where
  pub size_is : (c : ℕ) → (channel j c).size ≡ v.size c
  pub latest_is : (c : ℕ) → (channel j c).latest ≡ v.latest c
  pub session_is : (c t : ℕ) → t < task_count → session j c t ≡ v.session c t

module _ {k : Kernel} (g : Good k) where
  -- The channels stay, and the list of sessions becomes zs.
  channels_stay : {j : Kernel} {zs : List Slot} {z : ℕ → ℕ → Session} → beside j ≡ (k.channels, zs) → ((c t : ℕ) → t < task_count → (get_or zs (slot_number c t) (slot Closed)).session ≡ z c t)
      → Seen (with_sessions k z) j
  channels_stay b sessions =
      record {
        size_is = λ c i. (get_or (b i).0 c unused_channel).size;
        latest_is = λ c i. (get_or (b i).0 c unused_channel).latest;
        session_is = λ c t l. (λ i. (get_or (b i).1 (slot_number c t) (slot Closed)).session) ∙ sessions c t l;
      }

  -- So do the sessions.
  stays : {j : Kernel} → Beside k j → Seen (view k) j
  stays b = channels_stay b (λ c t l. refl)

  -- Task n loses its sessions.
  loses : (n : ℕ) → n < task_count → {j : Kernel} → Beside (without k n) j → Seen (with_sessions k (λ c t. cond (eqb t n) Closed (session k c t))) j
  loses n ln b =
      channels_stay b
      (λ c t l. compared (λ x. session (without k n) c t ≡ cond x Closed (session k c t)) t n (λ e. rw e (closed c)) (λ ne. session_stays k n ln c t l ne))
    where
      closed : (c : ℕ) → session (without k n) c n ≡ Closed
      closed = every_number g (λ c. session (without k n) c n ≡ Closed) (sessions_closed k n) (λ c blank none. ⊎_elim (λ z. z ∙ none n) (λ z. z) (session_kept k n c n))

  -- The running task gets a session.
  got : (c : ℕ) → c < channel_count → (z : Session) (d t : ℕ) → t < task_count → session (with_own k c z) d t ≡ (gets k c z).session d t
  got c lc z d t l =
      compared (λ x. session (with_own k c z) d t ≡ cond (x && eqb t k.running) z (session k d t)) d c
      (λ e. compared (λ x. session (with_own k c z) d t ≡ cond x z (session k d t)) t k.running (λ q. rw (e, q) (session_here g.sized c lc k.running g.runs.running z)) (λ ne. there (λ p. ne p.1)))
      (λ ne. there (λ p. ne p.0))
    where
      there : ((d ≡ c) × (t ≡ k.running) → ⊥) → session (with_own k c z) d t ≡ session k d t
      there = session_there g.sized c lc k.running g.runs.running z d t l

  only_gets : (c : ℕ) → c < channel_count → (z : Session) → Seen (gets k c z) (with_own k c z)
  only_gets c l z = record { size_is = λ d. refl; latest_is = λ d. refl; session_is = got c l z }

  -- The record of channel c becomes x.
  stored : {A : Type 0} (f : Channel → A) (v : ℕ → A) (c : ℕ) → c < channel_count → (x : Channel) → f x ≡ v c → ((d : ℕ) → (d ≡ c → ⊥) → f (channel k d) ≡ v d)
      → (d : ℕ) → f (channel (with_channel k c x) d) ≡ v d
  stored f v c l x here there d = go (ℕ_discrete d c)
    where
      go : Dec (d ≡ c) → f (channel (with_channel k c x) d) ≡ v d
      go (yes e) = rw e (ap f (channel_here g.sized c l x) ∙ here)
      go (no ne) = ap f (channel_there g.sized c l x d ne) ∙ there d ne

  verb_changed : (v : Verb) → VerbAllowed v k → Seen (left k (verb v)) (work v k).kernel
  unfolding move Tasks.create Tasks.activate Tasks.sleep Tasks.cycle Semaphores.new_semaphore Semaphores.delete
  verb_changed tick al = stays (ticks k)
  verb_changed (create_hard p c) al = stays refl
  verb_changed (create_nrt p) al = stays refl
  verb_changed (activate n) al = stays (schedules _)
  verb_changed sleep al = stays (dispatches _)
  verb_changed cycle al = stays (dispatches _)
  verb_changed end al = loses k.running g.runs.running (ended k)
  verb_changed (kill n) al = loses n al.1.0 (kills k n)
  verb_changed (new_semaphore n) al = stays refl
  verb_changed (delete s) al = stays refl
  verb_changed (wait s) al = stays (waits k s)
  verb_changed (signal s) al = stays (signals k s)

  channel_changed : (c : OnChannel) (m : List ℕ) → ChannelAllowed c k m → Seen (left k (on_channel c)) (channel_effect c k m).kernel
  unfolding Channels.open_channel Channels.begin_write Channels.put Channels.begin_reading Channels.close
  channel_changed (open_channel n b) m al =
      let c = lowest_channel k in
      let u = lowest_unused g al.2 in
      let x : Channel = record { size = n; buffers = b; latest = None } in
      record {
        size_is = stored (λ y. y.size) (left k (on_channel (open_channel n b))).size c u.0 x (rw (eq-eqb c c refl) refl) (λ d ne. rw (ne_eqb c d (λ e. ne (sym e))) refl);
        latest_is = stored (λ y. y.latest) (view k).latest c u.0 x (sym u.1.latest) (λ d ne. refl);
        session_is = λ d t l. refl;
      }
  channel_changed (begin_write c) m al = only_gets c al.1.0 (Write (lowest_buffer k c))
  channel_changed (piece c a bs) m al = stays refl
  channel_changed (put c) m al =
      let x : Channel = record { size = (channel k c).size; buffers = (channel k c).buffers; latest = Some (buffer (own k c)) } in
      record {
        size_is = stored (λ y. y.size) (view k).size c al.1.0 x refl (λ d ne. refl);
        latest_is = stored (λ y. y.latest) (left k (on_channel (put c))).latest c al.1.0 x (rw (eq-eqb c c refl) refl) (λ d ne. rw (ne_eqb d c ne) refl);
        session_is = got c al.1.0 Closed;
      }
  channel_changed (begin_reading c) m al = only_gets c al.1.0 (Reading (newest (channel k c).latest))
  channel_changed (showing c) m al = stays refl
  channel_changed (close c) m al = only_gets c al.1.0 Closed
  channel_changed (screen c text) m al = stays refl

  -- **changed**: an accepted call leaves what `left` says.
  pub changed : (c : Call) (m : List ℕ) → Allowed c k m → Seen (left k c) (effect c k m).kernel
  unfolding effect
  changed (verb v) m al = verb_changed v al
  changed (question q) m al = stays refl
  changed (on_channel c) m al = channel_changed c m al
