-- There is room for what is packed. Assumes nothing.
use Rattle.std.proofs.Common.{◌≤◌}
use Rattle.pace.specs.Room.{room}
use Rattle.pace.proofs.packed.Packed.of.Given as goal

abbrev pub invariant-loop-asked : goal.invariant-loop-asked
invariant-loop-asked l = l.count ≤ room
