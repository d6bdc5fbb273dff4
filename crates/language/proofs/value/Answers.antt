-- The digits passed spell the number so far. Assumes nothing.
use Rattle.std.proofs.Common.{arith}
use Rattle.language.proofs.Digits.{unsized, begins, stops, goes_on, ends}
use Rattle.language.proofs.value.Goals as goal

pub returns-then-is_empty : goal.returns-then-is_empty
returns-then-is_empty c = unsized _ (λ h. grind arith)

pub loop-b-init : goal.loop-b-init
loop-b-init c = begins _ (grind arith)

pub returns-then-not-is_ascii_digit : goal.returns-then-not-is_ascii_digit
returns-then-not-is_ascii_digit c = stops c.loop-b.invariant (omega arith) (λ h. grind (arith, c.if-not-is_ascii_digit.ensures.cases))

pub loop-b-preserved : goal.loop-b-preserved
loop-b-preserved c = rw c.from.ensures (goes_on c.loop-b.invariant (omega arith) c.if-not-is_ascii_digit.ensures.cases)

pub returns : goal.returns
returns c = ends c.loop-b.invariant (omega arith)
