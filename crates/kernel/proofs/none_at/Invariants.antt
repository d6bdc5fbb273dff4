-- -1, one word a turn. Assumes nothing.
use Rattle.std.proofs.Common.{◌≡◌}
use Rattle.kernel.specs.Fresh.{with_none}
use Rattle.kernel.proofs.none_at.Given as goal

abbrev pub invariant-loop-i : goal.invariant-loop-i
invariant-loop-i l = l.w ≡ with_none l.initial.w l.from l.step l.i
