-- One byte more is written, and in the end none is left. Assumes nothing.
use Rattle.std.proofs.Common.{◌≡◌, ◌∙◌, ◌+◌, ◌-◌, sym, arith}
use Rattle.big_endian.specs.BigEndian.{bytes}
use Rattle.big_endian.proofs.Bytes.{over_none, one_written}
use Rattle.big_endian.proofs.write.Goals as goal

pub loop-i-preserved : goal.loop-i-preserved
loop-i-preserved c =
    let l = c.loop-i in
    let e : l.i - 1 + 1 ≡ l.i = omega arith in
    rw e at (one_written l.bytes c.args.at (l.i - 1) l.rest (omega arith)) ∙ l.invariant

pub returns : goal.returns
unfolding bytes
returns c = let e : c.loop-i.i ≡ 0 = omega arith in sym (over_none c.loop-i.bytes c.args.at) ∙ rw e at c.loop-i.invariant
