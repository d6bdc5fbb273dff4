-- The stored share total is the sum of the shares, one task a turn. Assumes nothing.
use Rattle.sound_clauses.proofs.Sum.{Summed}
use Rattle.sound_clauses.proofs.shares_good.Given as goal

abbrev pub invariant-loop-x : goal.invariant-loop-x
invariant-loop-x l = Summed l.w l.x l.total
