-- Byte by byte: what is left of the part says the number behind those that were read. Assumes nothing.
use Rattle.std.proofs.Common.{◌≡◌, ◌+◌, ◌-◌, ◌^◌, ◌<◌}
use Rattle.big_endian.specs.BigEndian.{from, value, part}
use Rattle.big_endian.proofs.value.Given as goal

abbrev pub invariant-loop-i : goal.invariant-loop-i
invariant-loop-i l = (l.v < 256 ^ l.i) × (from l.v (part (l.at + l.i) (l.n - l.i) l.bytes) ≡ value (part l.at l.n l.bytes))
