-- The session that a call needs. Assumes nothing.
use Rattle.std.specs.Prelude.{◌≡◌, Bool, false, List, ℕ, ◌<◌}
use Rattle.kernel.specs.declared.Session.{Session}
use Rattle.kernel.specs.Sizes.{channel_count}
use Rattle.kernel.specs.Kernel.{channel}
use Rattle.kernel.specs.Channels.{own, is_closed, is_write, is_reading}
use Rattle.kernel.specs.Seen.{seen}
use Rattle.kernel.specs.Sound.{Sound}
use Rattle.channels.specs.declared.Kind.{Kind}
use Rattle.channels.specs.declared.Kind.TheVariants.{Closed, Write, Reading}

-- A session is of this kind.
abbrev pub fits : Kind → Session → Bool
fits Closed z = is_closed z
fits Write z = is_write z
fits Reading z = is_reading z

-- In sound words the running task has a session open on channel c, which is used.
pub record Holds (w : List ℕ) (c : ℕ) : Type 0 where
  pub sound : Sound w
  pub is_channel : c < channel_count
  pub is_used : (channel (seen w) c).size ≡ 0 → ⊥
  pub is_open : is_closed (own (seen w) c) ≡ false
