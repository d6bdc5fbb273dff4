-- Where sessions stay as they were or are closed, a channel stays good. Assumes nothing.
use mathlib.Core.Path.{◌≡◌, refl, sym, ap, ◌∙◌}
use mathlib.Core.List.{List, [], ◌∷◌}
use mathlib.Core.Logic.Iff
use mathlib.Core.Logic.{◌⊎◌, inl, inr, ⊎_map}
use Prim.Native.Nat.{ℕ, zero, suc, ◌*◌, ◌<◌}
use native.Mathlib.Omega.{arith}
use native.Mathlib.Decide.{ℕ_discrete}
use lib.ListN.{length, get_or, set, length-set}
use lib.Seq.{get_or-set_other}
use Rattle.kernel.specs.declared.Channel.{Channel}
use Rattle.kernel.specs.declared.Session.{Session}
use Rattle.kernel.specs.declared.Session.TheVariants.{Closed, Write, Reading}
use Rattle.kernel.specs.declared.Slot.{Slot}
use Rattle.kernel.specs.Sizes.{task_count, channel_count}
use Rattle.kernel.specs.Status.{FREE, ZOMBIE, status_number}
use Rattle.kernel.specs.Kernel.{Kernel, task, channel, session, slot, slot_number, with_sessions}
use Rattle.kernel.specs.Tasks.{close_sessions}
use Rattle.kernel.specs.Good.{GoodChannel, Opens}
use Rattle.kernel.proofs.Places.{numbered}
use Rattle.kernel.proofs.Stored.{of_slot}
use Rattle.laws_effects.specs.UnderWay.{Steady}
use Rattle.laws_effects.proofs.Asks.{Sessionless}
use Rattle.laws_effects.proofs.Kept.{task_kept}

-- An open session is not closed.
pub never_open : {z : Session} {b : ℕ} → Opens z b → z ≡ Closed → ⊥
never_open (inl e) c = let w : ◌≡◌ {A = ℕ} 0 1 = cc in omega arith
never_open (inr e) c = let w : ◌≡◌ {A = ℕ} 0 1 = cc in omega arith

-- Who has one is neither FREE nor ZOMBIE.
pub busy : {k : Kernel} {c : ℕ} → GoodChannel k c → (t b : ℕ) → t < task_count → Opens (session k c t) b
    → (status_number (task k t).status ≡ FREE → ⊥) × (status_number (task k t).status ≡ ZOMBIE → ⊥)
busy g t b l o = let z = g.sessions t b l o in (z.not_free, z.not_zombie)

-- The sessions on channel c in j: each is as it was in k, or closed. Who had an open one is neither FREE nor ZOMBIE.
pub record Fewer (j k : Kernel) (c : ℕ) : Type 0 where
  pub channel_is : channel j c ≡ channel k c
  pub session_is : (t : ℕ) → t < task_count → (session j c t ≡ session k c t) ⊎ (session j c t ≡ Closed)
  pub in_use : (t b : ℕ) → t < task_count → Opens (session k c t) b → (status_number (task j t).status ≡ FREE → ⊥) × (status_number (task j t).status ≡ ZOMBIE → ⊥)

pub fewer : {j k : Kernel} {c : ℕ} → Fewer j k c → GoodChannel k c → GoodChannel j c
fewer {j} {k} {c} f g =
    record {
      unused = λ e.
          let u = g.unused (rw f.channel_is at e) in
          record { buffers = rw f.channel_is u.buffers; latest = rw f.channel_is u.latest; sessions = λ t l. closed t l (f.session_is t l) (u.sessions t l) };
      used = λ h.
          let u = g.used (rw f.channel_is at h) in
          record { size = rw f.channel_is u.size; fewest = rw f.channel_is u.fewest; most = rw f.channel_is u.most };
      latest = λ b e. rw f.channel_is (g.latest b (rw f.channel_is at e));
      sessions = λ t b l o.
          let w = opens t l o in
          let u = f.in_use t b l w in
          record { not_free = u.0; not_zombie = u.1; named = rw f.channel_is (g.sessions t b l w).named };
      one_writer = λ t u b lt lu e z. g.one_writer t u b lt lu (writes t lt e) (writes u lu z);
      not_latest = λ t b l e z. g.not_latest t b l (writes t l e) (rw f.channel_is at z);
      not_read = λ t u b lt lu e z. g.not_read t u b lt lu (writes t lt e) (reads u lu z);
      put_first = λ t b l e z. g.put_first t b l (reads t l e) (rw f.channel_is at z);
    }
  where
    closed : (t : ℕ) → t < task_count → (session j c t ≡ session k c t) ⊎ (session j c t ≡ Closed) → session k c t ≡ Closed → session j c t ≡ Closed
    closed t l (inl s) e = s ∙ e
    closed t l (inr s) e = s

    was : {z : Session} {b : ℕ} (t : ℕ) → Opens z b → (session j c t ≡ session k c t) ⊎ (session j c t ≡ Closed) → session j c t ≡ z → session k c t ≡ z
    was t o (inl s) e = sym s ∙ e
    was t o (inr s) e = absurd (never_open o (sym e ∙ s))

    writes : {b : ℕ} (t : ℕ) → t < task_count → session j c t ≡ Write b → session k c t ≡ Write b
    writes t l e = was t (inl refl) (f.session_is t l) e

    reads : {b : ℕ} (t : ℕ) → t < task_count → session j c t ≡ Reading b → session k c t ≡ Reading b
    reads t l e = was t (inr refl) (f.session_is t l) e

    opens : {b : ℕ} (t : ℕ) → t < task_count → Opens (session j c t) b → Opens (session k c t) b
    opens t l (inl e) = inl (writes t l e)
    opens t l (inr e) = inr (reads t l e)

-- ---- the channels and their sessions become others

-- The kernel with these channels and these sessions.
abbrev pub with_channels : Kernel → List Channel → List Slot → Kernel
with_channels k hs zs =
    record { clock = k.clock; stop = k.stop; running = k.running; total = k.total; tasks = k.tasks; queues = k.queues; semaphores = k.semaphores; channels = hs; sessions = zs }

-- Where each channel is good, nothing else is asked.
pub channels_steady : {k : Kernel} → Steady k → (hs : List Channel) (zs : List Slot) → length hs ≡ channel_count → length zs ≡ task_count * channel_count
    → ((c : ℕ) → c < channel_count → GoodChannel (with_channels k hs zs) c) → Steady (with_channels k hs zs)
channels_steady s hs zs channels sessions each =
    record {
      sized = record { tasks = s.sized.tasks; queues = s.sized.queues; semaphores = s.sized.semaphores; channels = channels; sessions = sessions };
      tasks = λ x l. task_kept refl refl Iff.rfl (λ q z u. u) (s.tasks x l);
      queues = s.queues;
      shared = record { total_is = s.shared.total_is; total_fits = s.shared.total_fits };
      semaphores = s.semaphores;
      channels = each;
      clocked = record { clock = s.clocked.clock; expired = s.clocked.expired };
      runs = s.runs;
    }

-- ---- the sessions of one task are closed

-- What is stored at a place stands there, past the end too where that is what is read there.
set_default : {A : Type 0} (l : List A) (i : ℕ) (a : A) → get_or (set l i a) i a ≡ a
set_default [] i a = refl
set_default (x ∷ xs) zero a = refl
set_default (x ∷ xs) (suc i) a = set_default xs i a

module _ (t : ℕ) (zs : List Slot) where
  abbrev at : ℕ → ℕ → Slot
  at n y = get_or (close_sessions n t zs) y (slot Closed)

  close_length : (n : ℕ) → length (close_sessions n t zs) ≡ length zs
  unfolding close_sessions
  close_length zero = refl
  close_length (suc n) = length-set (close_sessions n t zs) (slot_number n t) (slot Closed) ∙ close_length n

  kept_or_closed : (n y : ℕ) → (at n y ≡ get_or zs y (slot Closed)) ⊎ (at n y ≡ slot Closed)
  unfolding close_sessions
  kept_or_closed zero y = inl refl
  kept_or_closed (suc n) y = go (ℕ_discrete y (slot_number n t)) (kept_or_closed n y)
    where
      go : Dec (y ≡ slot_number n t) → (at n y ≡ get_or zs y (slot Closed)) ⊎ (at n y ≡ slot Closed) → (at (suc n) y ≡ get_or zs y (slot Closed)) ⊎ (at (suc n) y ≡ slot Closed)
      go (yes e) h = inr (rw e (set_default (close_sessions n t zs) (slot_number n t) (slot Closed)))
      go (no ne) h = rw (get_or-set_other (close_sessions n t zs) (slot_number n t) y (slot Closed) (slot Closed) ne) h

  all_closed : (n c : ℕ) → c < n → at n (slot_number c t) ≡ slot Closed
  unfolding close_sessions
  all_closed zero c l = absurd (omega arith)
  all_closed (suc n) c l = go (all_closed n c) (ℕ_discrete (slot_number c t) (slot_number n t))
    where
      go : (c < n → at n (slot_number c t) ≡ slot Closed) → Dec (slot_number c t ≡ slot_number n t) → at (suc n) (slot_number c t) ≡ slot Closed
      go ih (yes e) = rw e (set_default (close_sessions n t zs) (slot_number n t) (slot Closed))
      go ih (no ne) = get_or-set_other (close_sessions n t zs) (slot_number n t) (slot_number c t) (slot Closed) (slot Closed) ne ∙ ih (omega arith)

  others_kept : (n y : ℕ) → ((c : ℕ) → y ≡ slot_number c t → ⊥) → at n y ≡ get_or zs y (slot Closed)
  unfolding close_sessions
  others_kept zero y ne = refl
  others_kept (suc n) y ne = get_or-set_other (close_sessions n t zs) (slot_number n t) y (slot Closed) (slot Closed) (ne n) ∙ others_kept n y ne

module _ (k : Kernel) (n : ℕ) where
  -- The kernel without the sessions of task n.
  abbrev pub without : Kernel
  without = with_sessions k (close_sessions channel_count n k.sessions)

  pub sessions_closed : Sessionless without n
  sessions_closed c l = ap of_slot (all_closed n k.sessions channel_count c l)

  pub session_kept : (c t : ℕ) → (session without c t ≡ session k c t) ⊎ (session without c t ≡ Closed)
  session_kept c t = ⊎_map (ap of_slot) (ap of_slot) (kept_or_closed n k.sessions channel_count (slot_number c t))

  -- The sessions of every other task stay.
  pub session_stays : n < task_count → (c t : ℕ) → t < task_count → (t ≡ n → ⊥) → session without c t ≡ session k c t
  session_stays ln c t lt ne = ap of_slot (others_kept n k.sessions channel_count (slot_number c t) differ)
    where
      differ : (d : ℕ) → slot_number c t ≡ slot_number d n → ⊥
      differ d e = let same : c ≡ d = numbered task_count c t d n lt ln e in ne (omega arith)

  pub closed_steady : Steady k → Steady without
  closed_steady s =
      channels_steady s k.channels (close_sessions channel_count n k.sessions) s.sized.channels (close_length n k.sessions channel_count ∙ s.sized.sessions)
      (λ c l.
      fewer
      (record {
        channel_is = refl;
        session_is = λ t lt. session_kept c t;
        in_use = busy (s.channels c l);
      })
      (s.channels c l))
