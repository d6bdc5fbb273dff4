-- The buffer of the latest message is one of its channel's. Assumes nothing.
use mathlib.Core.Path.{◌≡◌, refl}
use mathlib.Core.Bool.{true, false≢true}
use Prim.Native.Nat.{ℕ, ◌<◌}
use native.Mathlib.Omega.{arith}
use Rattle.std.specs.declared.option.Option.{Option}
use Rattle.std.specs.Prelude.{None, Some}
use Rattle.kernel.specs.Sizes.{most_buffers}
use Rattle.kernel.specs.Kernel.{Kernel, channel}
use Rattle.kernel.specs.Good.{Good}
use Rattle.kernel.specs.Channels.{put_before, newest}
use Rattle.kernel.proofs.Allowed.{ChannelInUse}
use Rattle.kernel.proofs.Messages.{most}

put : (l : Option ℕ) → put_before l ≡ true → l ≡ Some (newest l)
put None e = absurd (false≢true e)
put (Some b) e = refl

pub newest_most : {k : Kernel} → Good k → (c : ℕ) → ChannelInUse k c → put_before (channel k c).latest ≡ true → newest (channel k c).latest < most_buffers
newest_most {k} g c u e = omega (arith, most g c u, (g.channels c u.0).latest _ (put (channel k c).latest e))
