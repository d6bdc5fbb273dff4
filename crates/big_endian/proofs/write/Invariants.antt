-- From the last byte on: what is still to be written makes of the bytes what they become. Assumes nothing.
use Rattle.std.proofs.Common.{◌≡◌}
use Rattle.kernel.specs.Channels.{over}
use Rattle.big_endian.specs.BigEndian.{bytes}
use Rattle.big_endian.proofs.write.Given as goal

abbrev pub invariant-loop-i : goal.invariant-loop-i
invariant-loop-i l = over l.bytes l.at (bytes l.i l.rest) ≡ over l.initial.bytes l.at (bytes l.n l.v)
