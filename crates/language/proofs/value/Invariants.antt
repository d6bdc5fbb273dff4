-- The digits passed spell the number so far. Assumes nothing.
use Rattle.language.proofs.Digits.{Read}
use Rattle.language.proofs.value.Given as goal

abbrev pub invariant-loop-b : goal.invariant-loop-b
invariant-loop-b l = Read l.digits l.b-index l.n
