-- The parts of what is told follow each other, and each has room. Assumes nothing.
use Rattle.std.proofs.Common.{arith}
use Rattle.text.proofs.Digits.{short}
use Rattle.lister.proofs.tell.Goals as goal

pub decimal-b-requires : goal.decimal-b-requires
decimal-b-requires c = omega (arith, short c.in-Ok.accepted.number 19 (omega arith) (omega arith), short c.in-Ok.accepted.count 19 (omega arith) (omega arith))

pub put-c-requires : goal.put-c-requires
put-c-requires c = omega (arith, short c.in-Ok.accepted.number 19 (omega arith) (omega arith), short c.in-Ok.accepted.count 19 (omega arith) (omega arith))

pub decimal-requires : goal.decimal-requires
decimal-requires c = omega (arith, short c.in-Ok.accepted.number 19 (omega arith) (omega arith), short c.in-Ok.accepted.count 19 (omega arith) (omega arith))
