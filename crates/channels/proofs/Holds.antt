-- The running task's session, and the buffer that it holds. Assumes nothing.
use mathlib.Core.Path.{◌≡◌}
use mathlib.Core.Bool.{false}
use mathlib.Core.List.{List}
use Prim.Native.Nat.{ℕ, ◌+◌, ◌≤◌, ◌<◌}
use native.Mathlib.Omega.{arith}
use Rattle.kernel.specs.Sizes.{task_count, channel_count, most_buffers, memory_size}
use Rattle.kernel.specs.Kernel.{channel}
use Rattle.kernel.specs.Channels.{own, buffer, buffer_start, is_closed}
use Rattle.kernel.specs.Seen.{seen}
use Rattle.kernel.specs.Sound.{Sound}
use Rattle.kernel.specs.Shows.{Kept}
use Rattle.kernel.proofs.Allowed.{ChannelInUse}
use Rattle.kernel.proofs.Shows.{kept}
use Rattle.kernel.proofs.Messages.{most, inside, named}
use Rattle.channels.specs.Session.{Holds}

-- What it asks to give the running task another session on channel c, of buffer b.
pub can_change : {w : List ℕ} {c b : ℕ} → Sound w → c < channel_count → b < most_buffers
    → Kept w × ((c < channel_count) × (((seen w).running < task_count) × (b < most_buffers)))
can_change h l one = (kept h, (l, (h.good.runs.running, one)))

pub holds : {w : List ℕ} {c : ℕ} → Sound w → ChannelInUse (seen w) c → is_closed (own (seen w) c) ≡ false → Holds w c
holds h u e = record { sound = h; is_channel = u.0; is_used = u.1; is_open = e }

module _ {w : List ℕ} {c : ℕ} (h : Holds w c) where
  pub is_task : (seen w).running < task_count
  is_task = h.sound.good.runs.running

  used : ChannelInUse (seen w) c
  used = (h.is_channel, h.is_used)

  pub counted_most : buffer (own (seen w) c) < most_buffers
  counted_most = omega (arith, most h.sound.good c used, named h.sound.good c used h.is_open)

  -- Its message lies inside the memory.
  pub held_inside : buffer_start c (buffer (own (seen w) c)) + (channel (seen w) c).size ≤ memory_size
  held_inside = inside h.sound.good c used (buffer (own (seen w) c)) (named h.sound.good c used h.is_open)
