-- Which buffers the sessions on a channel hold, and what it asks that one task gets another session there. Assumes nothing.
use mathlib.Core.Path.{◌≡◌, refl, ◌∙◌}
use mathlib.Core.Logic.{inl, inr}
use Prim.Native.Nat.{ℕ, ◌≤◌, ◌<◌}
use native.Mathlib.Omega.{arith}
use native.Mathlib.Decide.{ℕ_discrete}
use lib.ListN.{length-set, set}
use Rattle.kernel.specs.declared.Channel.{Channel}
use Rattle.std.specs.Prelude.{None, Some}
use Rattle.kernel.specs.declared.Session.{Session}
use Rattle.kernel.specs.declared.Session.TheVariants.{Closed, Write, Reading}
use Rattle.kernel.specs.Sizes.{task_count, channel_count, longest_message, fewest_buffers, most_buffers}
use Rattle.kernel.specs.Status.{FREE, ZOMBIE, status_number}
use Rattle.kernel.specs.Kernel.{Kernel, task, channel, session, slot, slot_number, with_channel, with_sessions}
use Rattle.kernel.specs.Good.{GoodChannel, Opens}
use Rattle.kernel.proofs.Stored.{channel_here, channel_there, session_here, session_there}
use Rattle.laws_effects.specs.UnderWay.{Steady}
use Rattle.laws_effects.proofs.Sessions.{busy, fewer, channels_steady}

-- What a channel with the record h asks of a session: its buffer is one of the channel's, a writer's is not the latest, and nothing is read before the first put.
abbrev pub Suits : Channel → Session → Type 0
Suits h Closed = Unit {0}
Suits h (Write b) = (b < h.buffers) × (h.latest ≡ Some b → ⊥)
Suits h (Reading b) = (b < h.buffers) × (h.latest ≡ None → ⊥)

-- What one task's session asks of another's: the buffer of a writer is no other's.
abbrev pub Apart : Session → Session → Type 0
Apart Closed y = Unit {0}
Apart (Write b) y = Opens y b → ⊥
Apart (Reading b) y = y ≡ Write b → ⊥

-- Each session on a good channel suits it.
pub suits : {k : Kernel} {c : ℕ} → GoodChannel k c → (t : ℕ) → t < task_count → Suits (channel k c) (session k c t)
suits {k} {c} g t l = go (session k c t) refl
  where
    go : (z : Session) → session k c t ≡ z → Suits (channel k c) z
    go Closed e = tt
    go (Write b) e = ((g.sessions t b l (inl e)).named, g.not_latest t b l e)
    go (Reading b) e = ((g.sessions t b l (inr e)).named, g.put_first t b l e)

named : {z : Session} {b : ℕ} (h : Channel) → Suits h z → Opens z b → b < h.buffers
named h s (inl e) = (rw e at s).0
named h s (inr e) = (rw e at s).0

-- A write is no reading.
pub write_reading : {z : Session} {b x : ℕ} → z ≡ Write b → z ≡ Reading x → ⊥
write_reading p q = let clash : ◌≡◌ {A = ℕ} 0 1 = cc in omega arith

-- What it asks that task t gets the session z on channel c, whose record becomes h.
pub record Grant (k : Kernel) (c : ℕ) (h : Channel) (t : ℕ) (z : Session) : Type 0 where
  pub size : (1 ≤ h.size) × (h.size ≤ longest_message)
  pub buffers : (fewest_buffers ≤ h.buffers) × (h.buffers ≤ most_buffers)
  pub latest : (b : ℕ) → h.latest ≡ Some b → b < h.buffers
  pub in_use : (status_number (task k t).status ≡ FREE → ⊥) × (status_number (task k t).status ≡ ZOMBIE → ⊥)
  pub own : Suits h z
  pub others : (u : ℕ) → u < task_count → (u ≡ t → ⊥) → Suits h (session k c u)
  pub apart : (u : ℕ) → u < task_count → (u ≡ t → ⊥) → Apart z (session k c u)

-- **granted**: the kernel stays steady.
module _ {k : Kernel} (s : Steady k) (c : ℕ) (h : Channel) (t : ℕ) (z : Session) (l : c < channel_count) (lt : t < task_count) (a : Grant k c h t z) where
  abbrev j : Kernel
  j = with_channel (with_sessions k (set k.sessions (slot_number c t) (slot z))) c h

  g : GoodChannel k c
  g = s.channels c l

  record_here : channel j c ≡ h
  record_here = channel_here s.sized c l h

  -- What holds of task t with z, and of each other one with its own session, holds of all.
  each : (P : ℕ → Session → Type 0) → P t z → ((u : ℕ) → u < task_count → (u ≡ t → ⊥) → P u (session k c u)) → (u : ℕ) → u < task_count → P u (session j c u)
  each P here there u lu = go (ℕ_discrete u t)
    where
      go : Dec (u ≡ t) → P u (session j c u)
      go (yes e) = rw (e, session_here s.sized c l t lt z) here
      go (no ne) = rw (session_there s.sized c l t lt z c u lu (λ e. ne e.1)) (there u lu ne)

  -- And of two tasks.
  two : (P : ℕ → Session → ℕ → Session → Type 0) → P t z t z → ((u : ℕ) → u < task_count → (u ≡ t → ⊥) → P t z u (session k c u) × P u (session k c u) t z)
      → ((u v : ℕ) → u < task_count → v < task_count → P u (session k c u) v (session k c v)) → (u v : ℕ) → u < task_count → v < task_count → P u (session j c u) v (session j c v)
  two P both one none u v lu lv =
      each (λ (x : ℕ) (y : Session). P x y v (session j c v)) (each (P t z) both (λ w lw ne. (one w lw ne).0) v lv)
      (λ x lx nx. each (P x (session k c x)) (one x lx nx).1 (λ w lw nw. none x w lx lw) v lv) u lu

  all_suit : (u : ℕ) → u < task_count → Suits h (session j c u)
  all_suit = each (λ (u : ℕ) (y : Session). Suits h y) a.own a.others

  here : GoodChannel j c
  here =
      record {
        unused = λ e. absurd (omega (arith, a.size.0, rw record_here at e));
        used = λ n. record { size = rw record_here a.size.1; fewest = rw record_here a.buffers.0; most = rw record_here a.buffers.1 };
        latest = rw record_here a.latest;
        sessions = λ u b lu o.
            let r = each (λ (x : ℕ) (y : Session). Opens y b → (status_number (task k x).status ≡ FREE → ⊥) × (status_number (task k x).status ≡ ZOMBIE → ⊥))
            (λ p. a.in_use) (λ x lx ne. busy g x b lx) u lu o in
            record { not_free = r.0; not_zombie = r.1; named = rw record_here (named h (all_suit u lu) o) };
        one_writer = λ u v b.
            two (λ (x : ℕ) (y : Session) (w : ℕ) (r : Session). y ≡ Write b → r ≡ Write b → x ≡ w)
            (λ p q. refl)
            (λ x lx ne. (λ p q. absurd ((rw p at (a.apart x lx ne)) (inl q)), λ p q. absurd ((rw q at (a.apart x lx ne)) (inl p))))
            (λ x w lx lw. g.one_writer x w b lx lw) u v;
        not_latest = λ u b lu e. rw record_here (rw e at (all_suit u lu)).1;
        not_read = λ u v b.
            two (λ (x : ℕ) (y : Session) (w : ℕ) (r : Session). y ≡ Write b → r ≡ Reading b → ⊥)
            write_reading
            (λ x lx ne. (λ p q. (rw p at (a.apart x lx ne)) (inr q), λ p q. (rw q at (a.apart x lx ne)) p))
            (λ x w lx lw. g.not_read x w b lx lw) u v;
        put_first = λ u b lu e. rw record_here (rw e at (all_suit u lu)).1;
      }

  -- Another channel keeps its record and its sessions.
  elsewhere : (d : ℕ) → d < channel_count → (d ≡ c → ⊥) → GoodChannel j d
  elsewhere d ld ne =
      fewer
      (record {
        channel_is = channel_there s.sized c l h d ne;
        session_is = λ u lu. inl (session_there s.sized c l t lt z d u lu (λ e. ne e.0));
        in_use = busy (s.channels d ld);
      })
      (s.channels d ld)

  pub granted : Steady j
  granted =
      channels_steady s (set k.channels c h) (set k.sessions (slot_number c t) (slot z)) (length-set k.channels c h ∙ s.sized.channels)
      (length-set k.sessions (slot_number c t) (slot z) ∙ s.sized.sessions) (λ d ld. go d ld (ℕ_discrete d c))
    where
      go : (d : ℕ) → d < channel_count → Dec (d ≡ c) → GoodChannel j d
      go d ld (yes e) = rw e here
      go d ld (no ne) = elsewhere d ld ne
