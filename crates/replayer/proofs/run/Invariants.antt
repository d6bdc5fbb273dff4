-- Record by record: the run of those that are left is the run of all. Assumes nothing.
use Rattle.std.proofs.Common.{◌≡◌}
use Rattle.kernel.specs.Sound.{Sound}
use Rattle.replayer.proofs.Runs.{ready, all, from}
use Rattle.replayer.proofs.run.Given as goal

abbrev pub invariant-loop-i : goal.invariant-loop-i
invariant-loop-i l = Sound l.w × (all l.block l.count l.initial.w l.at ≡ from l.block l.count l.i l.w (ready l.at.number l.index))
