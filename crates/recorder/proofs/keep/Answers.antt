-- The record has its place; where it was the last, the block goes out. Assumes nothing.
use Rattle.std.proofs.Common.{◌≡◌, ◌∙◌, ◌+◌, arith}
use Rattle.tape.specs.Block.{most_records}
use Rattle.tape.specs.Writing.{closed}
use Rattle.recorder.specs.Keeps.{full}
use Rattle.recorder.proofs.keep.Goals as goal

pub returns : goal.returns
returns c =
    let same : c.args.at.count + 1 ≡ most_records = omega arith in
    full same (c.out-n.ensures.block_after ∙ (λ j. closed (c.put.ensures.block_after j) c.args.at.number (same j))) c.out-n.ensures.continued
    (λ j. record { at = record { count = 0; number = c.next.ensures j }; printed = c.out-n.result })
