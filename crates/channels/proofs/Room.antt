-- Where open is legal, there is an unused channel. Assumes nothing.
use mathlib.Core.Path.{◌≡◌}
use mathlib.Core.List.{List}
use Prim.Native.Nat.{ℕ, ◌<◌}
use native.Mathlib.Omega.{arith}
use lib.Dec.{eqb}
use Rattle.kernel.specs.Sizes.{channel_count}
use Rattle.kernel.specs.Kernel.{channel}
use Rattle.kernel.specs.Channels.{lowest_channel}
use Rattle.kernel.specs.Calls.{open_channel, on_channel}
use Rattle.kernel.specs.Seen.{seen}
use Rattle.kernel.specs.Sound.{Sound}
use Rattle.kernel.proofs.Lowest.{found}
use Rattle.std.specs.Prelude.{Ok}
use Rattle.refusals.specs.Tested.{Said, Verdict, Legal}
use Rattle.refusals.proofs.Answers.{allows, legal}

pub room : {w : List ℕ} {size buffers : ℕ} → Legal (on_channel (open_channel size buffers)) w → lowest_channel (seen w) < channel_count
unfolding lowest_channel
room {w} l = (found channel_count (λ x. eqb (channel (seen w) x).size 0) (allows l).allowed.2).0

pub room_numbered : {w : List ℕ} {size buffers n : ℕ} {v : Said} → Verdict (on_channel (open_channel size buffers)) w v → Sound w → v ≡ Ok tt → n ≡ lowest_channel (seen w) → n < 9223372036854775808
room_numbered t h a e = let l = room (legal t h a) in omega arith
