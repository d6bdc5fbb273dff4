-- The digits that io spells are those of the decimal. Assumes nothing.
use Rattle.std.proofs.Common.{arith, rules}
use Rattle.text.proofs.Digits.{spelled}
use Rattle.text.proofs.decimal.Goals as goal

pub put-requires : goal.put-requires
put-requires c = rw (c.decimal-k.ensures.digits, spelled c.args.n c.decimal-k.result (omega arith) c.decimal-k.ensures.len) (search rules)

pub returns : goal.returns
returns c = rw (c.decimal-k.ensures.digits, spelled c.args.n c.decimal-k.result (omega arith) c.decimal-k.ensures.len) at c.put.ensures
