-- The index, what is told, and the line's end follow each other, and each has room. Assumes nothing.
use Rattle.std.proofs.Common.{◌≤◌, length, ap, ◌∙◌, length-append, arith}
use Rattle.text.proofs.Digits.{short}
use Rattle.text.proofs.Follows.{follows}
use Rattle.pieces.specs.Program.{next_index}
use Rattle.lister.specs.Listing.{told, line, turn}
use Rattle.lister.proofs.Short.{told_short}
use Rattle.lister.proofs.block.Goals as goal

pub decimal-a-requires : goal.decimal-a-requires
decimal-a-requires c = omega (arith, short c.args.index 19 (omega arith) (omega arith))

pub put-b-requires : goal.put-b-requires
put-b-requires c = omega (arith, short c.args.index 19 (omega arith) (omega arith))

pub tell-c-requires : goal.tell-c-requires
tell-c-requires c = omega (arith, short c.args.index 19 (omega arith) (omega arith))

pub put-requires : goal.put-requires
put-requires c =
    let tells : length (told c.read.result) ≤ 27 = rw c.read.ensures (told_short c.args.block.now (λ i. (c.type_inv.block i).fits)) in
    omega (arith, short c.args.index 19 (omega arith) (omega arith), tells)

pub returns : goal.returns
unfolding turn
returns c =
    let tells : length (told c.read.result) ≤ 27 = rw c.read.ensures (told_short c.args.block.now (λ i. (c.type_inv.block i).fits)) in
    record {
      text = line c.args.index c.read.result;
      put = follows c.decimal-a.ensures (follows c.put-b.ensures (follows c.tell-c.ensures c.put.ensures));
      short = simp length-append (omega (arith, short c.args.index 19 (omega arith) (omega arith), tells));
      keeps = λ s e. c.next_index.ensures ∙ ap next_index e;
      prints = λ s e. rw (e, c.read.ensures);
    }
