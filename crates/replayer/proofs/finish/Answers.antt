-- The index and the line's end, or `none`. Assumes nothing.
use Rattle.std.proofs.Common.{length-append, arith}
use Rattle.text.proofs.Digits.{short}
use Rattle.text.proofs.Follows.{follows}
use Rattle.replayer.proofs.finish.Goals as goal

pub decimal-n-requires : goal.decimal-n-requires
decimal-n-requires c = omega (arith, short c.args.at.index 19 (omega arith) (omega arith))

pub put-requires : goal.put-requires
put-requires c = omega (arith, short c.args.at.index 19 (omega arith) (omega arith))

pub returns-then-differed : goal.returns-then-differed
returns-then-differed c = λ w.
    record {
      text = _;
      put = follows c.decimal-n.ensures c.put.ensures;
      short = simp length-append (omega (arith, short c.args.at.index 19 (omega arith) (omega arith)));
      prints = λ s e. rw (← e, ← c.differed.ensures, c.if-differed.true);
    }
