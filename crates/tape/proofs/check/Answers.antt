-- Each summand is small, and the next byte is what is left without it. Assumes nothing.
use Rattle.std.proofs.Common.{◌+◌, take, drop_of_length-le, arith}
use lib.Seq.{length-take-le}
use Rattle.tape.specs.Block.{check_at, weighed}
use Rattle.tape.proofs.Loops.{weighed_next, product_small}
use Rattle.tape.proofs.check.Goals as goal

pub overflow_mul-sum : goal.overflow_mul-sum
overflow_mul-sum c = omega (arith, product_small c.args.block.now c.loop-i.i (λ j. (c.type_inv.block j).fits) c.requires c.loop-i-test.true)

pub overflow_add-sum-in-loop-i : goal.overflow_add-sum-in-loop-i
overflow_add-sum-in-loop-i c = omega (arith, length-take-le check_at c.args.block.now c.requires, product_small c.args.block.now c.loop-i.i (λ j. (c.type_inv.block j).fits) c.requires c.loop-i-test.true)

pub loop-i-preserved : goal.loop-i-preserved
loop-i-preserved c =
    let small = product_small c.args.block.now c.loop-i.i (λ j. (c.type_inv.block j).fits) c.requires c.loop-i-test.true in
    (omega (arith, small), omega (arith, weighed_next (take check_at c.args.block.now) (c.loop-i.i + 1) c.loop-i.i c.loop-i-test.true))

pub returns : goal.returns
unfolding weighed
returns c = omega (arith, rw (drop_of_length-le (take check_at c.args.block.now) {i = c.loop-i.i} c.loop-i-test.false) at c.loop-i.invariant.1)
