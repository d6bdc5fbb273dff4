-- The code's tests of a channel and of each session on it are the channel's clauses. Assumes nothing.
use mathlib.Core.Path.{◌≡◌, refl, ap, sym}
use mathlib.Core.Bool.{Bool, true}
use mathlib.Core.List.{List}
use mathlib.Core.Logic.{◌↔◌, ◌⊎◌, inl, inr, ⊎_elim}
use Prim.Native.Nat.{ℕ, zero-le, ◌<◌}
use native.Mathlib.Nat.{eq-or-lt_of_le}
use native.Mathlib.Omega.{arith}
use Rattle.kernel.specs.declared.Channel.{Channel}
use Rattle.std.specs.declared.option.Option.{Option}
use Rattle.std.specs.Prelude.{None, Some}
use Rattle.kernel.specs.declared.Session.{Session}
use Rattle.kernel.specs.declared.Session.TheVariants.{Closed, Write, Reading}
use Rattle.kernel.specs.Sizes.{task_count, channel_count}
use Rattle.kernel.specs.Status.{status_number}
use Rattle.kernel.specs.Kernel.{Bare, Kernel, channel, session, slot_number}
use Rattle.kernel.specs.Good.{GoodChannel}
use Rattle.kernel.specs.Seen.{status_in, slot_in, channel_in, seen}
use Rattle.kernel.proofs.Decided.{means}
use Rattle.words.proofs.Seen.{task_seen, channel_seen, session_seen}
use Rattle.sound_sessions.specs.Channel.{NamesLatest, KeepsChannel}
use Rattle.sound_sessions.specs.Session.{KeepsSession, Alone, KeptIn}

-- Where there are no buffers, there is no latest and no session.
no_latest : (l : Option ℕ) → NamesLatest 0 l → l ≡ None
no_latest None f = refl
no_latest (Some b) f = absurd (omega (arith, f b refl))

no_session : {h : Channel} {m : ℕ} (z : Session) → KeepsSession h m z → h.buffers ≡ 0 → z ≡ Closed
no_session Closed k e = refl
no_session (Write b) k e = absurd (omega (arith, (k.good b (inl refl)).named))
no_session (Reading b) k e = absurd (omega (arith, (k.good b (inr refl)).named))

-- Of n sessions each writer is alone with its buffer; no buffer has two writers; no buffer is written and read.
abbrev EachAlone : ℕ → (ℕ → Session) → Type 0
EachAlone n z = (t b : ℕ) → t < n → z t ≡ Write b → Alone n z t b

abbrev OneWriter : ℕ → (ℕ → Session) → Type 0
OneWriter n z = (t u b : ℕ) → t < n → u < n → z t ≡ Write b → z u ≡ Write b → t ≡ u

abbrev NotRead : ℕ → (ℕ → Session) → Type 0
NotRead n z = (t u b : ℕ) → t < n → u < n → z t ≡ Write b → z u ≡ Reading b → ⊥

-- A write is no reading.
write_reading : {z : Session} (a b : ℕ) → z ≡ Write a → z ≡ Reading b → ⊥
write_reading a b e p = cc

-- The first says the other two, and they say the first.
one_writer : (n : ℕ) (z : ℕ → Session) → EachAlone n z → OneWriter n z
one_writer n z f t u b lt lu p q =
    let same : (u ≡ t → ⊥) → ⊥ = λ d. f t b lt p u lu d (inl q) in
    let not_before : u < t → ⊥ = λ l. same (λ e. omega arith) in
    let not_behind : t < u → ⊥ = λ l. same (λ e. omega arith) in
    omega arith

not_read : (n : ℕ) (z : ℕ → Session) → EachAlone n z → NotRead n z
not_read n z f t u b lt lu p q = f t b lt p u lu (λ e. write_reading b b p (rw e at q)) (inr q)

each_alone : (n : ℕ) (z : ℕ → Session) → OneWriter n z → NotRead n z → EachAlone n z
each_alone n z one none t b lt p u lu d o = ⊎_elim (λ q. d (one u t b lu lt q p)) (none t u b lt lu p) o

-- The instance at the document's number of tasks: what the code tests is what the clauses say, both ways.
module _ (k : Kernel) (c : ℕ) where
  pub good_channel : KeepsChannel (channel k c) → ((t : ℕ) → t < task_count → KeptIn k c t) → GoodChannel k c
  good_channel h f =
      let alone : EachAlone task_count (session k c) = λ t b l. (f t l).alone b in
      record {
        unused = λ e. let none = h.sizes.unused e in
            record { buffers = none; latest = no_latest _ (rw none at h.latest); sessions = λ t l. no_session _ (f t l).itself none };
        used = λ l. record { size = h.sizes.longest; fewest = h.sizes.fewest l; most = h.sizes.most };
        latest = h.latest;
        sessions = λ t b l. (f t l).itself.good b;
        one_writer = one_writer task_count (session k c) alone;
        not_latest = λ t b l. (f t l).itself.not_latest b;
        not_read = not_read task_count (session k c) alone;
        put_first = λ t b l. (f t l).itself.put_first b;
      }

  pub channel_kept : GoodChannel k c → KeepsChannel (channel k c)
  channel_kept g =
      let size = (channel k c).size in
      let either : (0 ≡ size) ⊎ (0 < size) = eq-or-lt_of_le zero-le in
      record {
        sizes = record {
          longest = ⊎_elim (λ e. omega arith) (λ l. (g.used l).size) either;
          most = ⊎_elim (λ e. omega (arith, (g.unused (sym e)).buffers)) (λ l. (g.used l).most) either;
          fewest = λ l. (g.used l).fewest;
          unused = λ e. (g.unused e).buffers;
        };
        latest = g.latest;
      }

  pub sessions_kept : GoodChannel k c → (t : ℕ) → t < task_count → KeptIn k c t
  sessions_kept g t l =
      record {
        itself = record {
          good = λ b. g.sessions t b l;
          not_latest = λ b. g.not_latest t b l;
          put_first = λ b. g.put_first t b l;
        };
        alone = λ b. each_alone task_count (session k c) g.one_writer g.not_read t b l;
      }

-- ---- the tests, of what is read

-- Of the session of task t on channel c, which is h.
pub session_tested : (w : List ℕ) (c t : ℕ) → c < channel_count → t < task_count → {h : Channel} {b : Bool} → h ≡ channel_in w c
    → (let z = (slot_in w (slot_number c t)).session in (b ≡ true) ↔ (KeepsSession h (status_number (status_in w t)) z × ((a : ℕ) → z ≡ Write a → Alone task_count (session (seen w) c) t a)))
    → (b ≡ true) ↔ KeptIn (seen w) c t
session_tested w c t lc lt is d =
    means (rw (is, ← session_seen w c t lc lt, ← channel_seen w c lc, ← ap (λ (a : Bare). a.status) (task_seen w t lt)) at d) (λ h. record { itself = h.0; alone = h.1 }) (λ g. (g.itself, g.alone))

-- Of channel c and of all sessions on it.
pub channel_tested : (w : List ℕ) (c : ℕ) → c < channel_count → {b : Bool} → (b ≡ true) ↔ (KeepsChannel (channel_in w c) × ((t : ℕ) → t < task_count → KeptIn (seen w) c t))
    → (b ≡ true) ↔ GoodChannel (seen w) c
channel_tested w c l d = means (rw (← channel_seen w c l) at d) (λ h. good_channel _ c h.0 h.1) (λ g. (channel_kept _ c g, sessions_kept _ c g))
