-- What must hold of a task's session on a channel, by itself and among the sessions of the others. Assumes nothing.
use Rattle.std.specs.Prelude.{◌≡◌, ℕ, ◌<◌}
use Rattle.kernel.specs.declared.Channel.{Channel}
use Rattle.std.specs.Prelude.{None, Some}
use Rattle.kernel.specs.declared.Session.{Session}
use Rattle.kernel.specs.declared.Session.TheVariants.{Write, Reading}
use Rattle.kernel.specs.Sizes.{task_count}
use Rattle.kernel.specs.Status.{status_number}
use Rattle.kernel.specs.Kernel.{Kernel, task, channel, session}
use Rattle.kernel.specs.Good.{Opens, GoodSession}

-- A session on channel h of a task whose status has the number n, by itself: it is good where it is open, a writer's buffer is not the latest, and nothing is read before the first put.
pub record KeepsSession (h : Channel) (n : ℕ) (z : Session) : Type 0 where
  pub good : (b : ℕ) → Opens z b → GoodSession n b h.buffers
  pub not_latest : (b : ℕ) → z ≡ Write b → h.latest ≡ Some b → ⊥
  pub put_first : (b : ℕ) → z ≡ Reading b → h.latest ≡ None → ⊥

-- Of n tasks' sessions none but that of task t names buffer b.
abbrev pub Alone : ℕ → (ℕ → Session) → ℕ → ℕ → Type 0
Alone n z t b = (u : ℕ) → u < n → (u ≡ t → ⊥) → Opens (z u) b → ⊥

-- The session of task t, one of n, whose status has the number m: it keeps the rules by itself, and where it writes, no other names its buffer.
pub record KeptSession (n : ℕ) (h : Channel) (m : ℕ) (z : ℕ → Session) (t : ℕ) : Type 0 where
  pub itself : KeepsSession h m (z t)
  pub alone : (b : ℕ) → z t ≡ Write b → Alone n z t b

-- The session of task t on channel c of a kernel.
abbrev pub KeptIn : Kernel → ℕ → ℕ → Type 0
KeptIn k c t = KeptSession task_count (channel k c) (status_number (task k t).status) (session k c) t
