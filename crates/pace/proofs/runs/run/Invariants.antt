-- The words are sound from call to call. Assumes nothing.
use Rattle.kernel.specs.Sound.{Sound}
use Rattle.pace.proofs.runs.run.Given as goal

abbrev pub invariant-loop-asked : goal.invariant-loop-asked
invariant-loop-asked l = Sound l.w
