-- Sessions of a task that are closed, channel by channel. Assumes nothing.
use mathlib.Core.Path.{◌≡◌}
use mathlib.Core.List.{List}
use Prim.Native.Nat.{ℕ, ◌+◌, ◌<◌}
use native.Mathlib.Numerals.{add-one}
use native.Mathlib.Omega.{arith}
use lib.ListN.{set}
use Rattle.kernel.specs.declared.Session.TheVariants.{Closed}
use Rattle.kernel.specs.Sizes.{task_count, channel_count}
use Rattle.kernel.specs.Kernel.{Kernel, slot, slot_number, with_sessions}
use Rattle.kernel.specs.Tasks.{close_sessions}
use Rattle.kernel.specs.Layout.{session_at}
use Rattle.kernel.specs.Codes.{session_code}
use Rattle.kernel.specs.Seen.{seen}
use Rattle.kernel.specs.Shows.{Kept, Shows}
use Rattle.kernel.proofs.Shows.{itself, then}
use Rattle.words.proofs.Entries.{session_set}

-- The words v are w with the sessions of task n closed on the first c channels.
pub record Closing (w : List ℕ) (n c : ℕ) (v : List ℕ) : Type 0 where
  pub shows : Shows v (with_sessions (seen w) (close_sessions c n (seen w).sessions))

pub begins : {w : List ℕ} (n : ℕ) → Kept w → Closing w n 0 w
unfolding close_sessions
begins n k = record { shows = itself k }

-- One channel more.
pub more : {w : List ℕ} {n c : ℕ} {v : List ℕ} → Closing w n c v → n < task_count → c < channel_count → Closing w n (c + 1) (set v (session_at (slot_number c n)) (session_code Closed))
unfolding close_sessions
more {n = n} {c = c} h ln lc =
    record {
      shows = rw add-one
          (then (λ (k : Kernel). with_sessions k (set k.sessions (slot_number c n) (slot Closed))) h.shows
          (session_set (slot_number c n) Closed (omega arith) (λ b e. let z : ◌≡◌ {A = ℕ} 0 1 = cc in omega arith) h.shows.kept));
    }
