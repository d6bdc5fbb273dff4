-- Byte by byte: what is left of the bytes makes the sum what it becomes. Assumes nothing.
use Rattle.std.proofs.Common.{◌≡◌, ◌+◌, ◌*◌, ◌≤◌, drop}
use Rattle.tape.specs.Block.{weighed}
use Rattle.tape.proofs.check.Given as goal

abbrev pub invariant-loop-i : goal.invariant-loop-i
invariant-loop-i l = (l.sum ≤ 130050 * l.i) × (l.sum + weighed (l.i + 1) (drop l.i l.bytes) ≡ weighed 1 l.bytes)
