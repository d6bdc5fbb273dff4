-- Each byte read has room, and makes of what was read and what is left the same number. Assumes nothing.
use Rattle.std.proofs.Common.{◌≡◌, ◌∙◌, ◌+◌, ◌-◌, get_or, arith}
use Rattle.big_endian.specs.BigEndian.{from}
use Rattle.big_endian.proofs.Bytes.{grows, has_room, one_read}
use Rattle.big_endian.proofs.value.Goals as goal

pub overflow_mul-v : goal.overflow_mul-v
overflow_mul-v c = omega (arith, has_room c.loop-i.i c.loop-i.v c.loop-i.invariant.0 (omega arith))

pub overflow_add-v-in-loop-i : goal.overflow_add-v-in-loop-i
overflow_add-v-in-loop-i c = omega (arith, has_room c.loop-i.i c.loop-i.v c.loop-i.invariant.0 (omega arith), c.type_inv.bytes (c.args.at + c.loop-i.i))

pub loop-i-preserved : goal.loop-i-preserved
loop-i-preserved c =
    let l = c.loop-i in
    let k = c.args in
    (grows l.i l.v (get_or k.bytes.now (k.at + l.i) 0) l.invariant.0 (c.type_inv.bytes (k.at + l.i)).fits, one_read k.bytes.now k.at k.n l.v l.i (omega arith) (omega arith) ∙ l.invariant.1)

pub returns : goal.returns
unfolding from
returns c = let e : c.args.n - c.loop-i.i ≡ 0 = omega arith in rw e at c.loop-i.invariant.1
