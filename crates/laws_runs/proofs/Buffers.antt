-- What a buffer holds, what bytes written into one buffer leave of the others, and which channels and buffers there are. Assumes nothing.
use mathlib.Core.Path.{◌≡◌, ap}
use mathlib.Core.List.{List}
use mathlib.Core.Logic.{⊎_map}
use Prim.Native.Nat.{ℕ, ◌+◌, ◌≤◌, ◌<◌}
use native.Mathlib.Omega.{arith}
use native.Mathlib.Decide.{ℕ_discrete, dec_lt}
use lib.ListN.{length, take, drop, get_or-eq_default}
use lib.Dec.{eqb}
use borrow.Author.Tests.{eqb-true}
use Rattle.kernel.specs.declared.Channel.{Channel}
use Rattle.std.specs.Prelude.{Some}
use Rattle.kernel.specs.declared.Session.TheVariants.{Closed}
use Rattle.kernel.specs.Sizes.{task_count, channel_count, most_buffers, longest_message, memory_size}
use Rattle.kernel.specs.Kernel.{Kernel, channel, session, unused_channel, slot}
use Rattle.kernel.specs.Channels.{buffer_start, over, lowest_channel}
use Rattle.kernel.specs.Good.{Good, Unused, Opens}
use Rattle.kernel.proofs.Lowest.{found}
use Rattle.kernel.proofs.Places.{place_inside, places_apart}
use Rattle.kernel.proofs.Over.{over_apart}
use Rattle.kernel.proofs.Stored.{of_slot}
use Rattle.laws_effects.proofs.Sessions.{never_open}
use Rattle.laws_effects.proofs.Channels.{put_or_not}

-- The n message bytes of buffer b of channel c.
abbrev pub bytes_in : List ℕ → ℕ → ℕ → ℕ → List ℕ
bytes_in m c n b = take n (drop (buffer_start c b) m)

-- Bytes written from a on, inside buffer b of channel c, leave every other buffer, of this channel and of others.
pub bytes_apart : (m : List ℕ) → length m ≡ memory_size → (c b a : ℕ) (bs : List ℕ) → c < channel_count → b < most_buffers → buffer_start c b ≤ a
    → a + length bs ≤ buffer_start c b + longest_message → (d x n : ℕ) → x < most_buffers → n ≤ longest_message → ((c ≡ d) × (b ≡ x) → ⊥) → bytes_in (over m a bs) d n x ≡ bytes_in m d n x
bytes_apart m size c b a bs lc lb from to d x n lx ln differ =
    over_apart m a bs (omega (arith, place_inside c b lc lb)) (buffer_start d x) n
    (⊎_map (λ h. omega arith) (λ h. omega arith) (places_apart d x c b lx lb (λ e. differ (omega arith))))

module _ {k : Kernel} (g : Good k) where
  -- What holds of every channel, and of one that is unused and has no session, holds of every number: past the last channel there is none.
  pub every_number : (P : ℕ → Type 0) → ((c : ℕ) → c < channel_count → P c) → ((c : ℕ) → channel k c ≡ unused_channel → ((t : ℕ) → session k c t ≡ Closed) → P c) → (c : ℕ) → P c
  every_number P channels past c = go (dec_lt c channel_count)
    where
      go : Dec (c < channel_count) → P c
      go (yes l) = channels c l
      go (no far) =
          past c (get_or-eq_default k.channels unused_channel (omega (arith, g.sized.channels)))
          (λ t. ap of_slot (get_or-eq_default k.sessions (slot Closed) (omega (arith, g.sized.sessions))))

  -- Messages and buffers keep the document's sizes, on a channel that is unused too.
  pub sizes : (c : ℕ) → ((channel k c).size ≤ longest_message) × ((channel k c).buffers ≤ most_buffers)
  sizes =
      every_number (λ c. ((channel k c).size ≤ longest_message) × ((channel k c).buffers ≤ most_buffers)) (λ c l. go c l (ℕ_discrete (channel k c).size 0))
      (λ c blank closed. (omega (arith, ap (λ (x : Channel). x.size) blank), omega (arith, ap (λ (x : Channel). x.buffers) blank)))
    where
      go : (c : ℕ) → c < channel_count → Dec ((channel k c).size ≡ 0) → ((channel k c).size ≤ longest_message) × ((channel k c).buffers ≤ most_buffers)
      go c l (yes e) = (omega arith, omega (arith, ((g.channels c l).unused e).buffers))
      go c l (no ne) = let u = (g.channels c l).used (omega arith) in (u.size, u.most)

  -- The latest buffer, and that of a session, is a buffer.
  pub latest_buffer : (c b : ℕ) → (channel k c).latest ≡ Some b → b < most_buffers
  latest_buffer =
      every_number (λ c. (b : ℕ) → (channel k c).latest ≡ Some b → b < most_buffers) (λ c l b e. omega (arith, (sizes c).1, (g.channels c l).latest b e))
      (λ c blank closed b e. absurd (put_or_not (ap (λ (x : Channel). x.latest) blank) e))

  pub session_buffer : (c t b : ℕ) → t < task_count → Opens (session k c t) b → b < most_buffers
  session_buffer =
      every_number (λ c. (t b : ℕ) → t < task_count → Opens (session k c t) b → b < most_buffers) (λ c l t b lt o. omega (arith, (sizes c).1, ((g.channels c l).sessions t b lt o).named))
      (λ c blank closed t b lt o. absurd (never_open o (closed t)))

  -- The channel that open takes is unused.
  pub lowest_unused : (lowest_channel k ≡ channel_count → ⊥) → (lowest_channel k < channel_count) × Unused k (lowest_channel k)
  unfolding lowest_channel
  lowest_unused some =
      let c = lowest_channel k in
      let f = found channel_count (λ d. eqb (channel k d).size 0) some in
      (f.0, (g.channels c f.0).unused (eqb-true (channel k c).size 0 f.1))
