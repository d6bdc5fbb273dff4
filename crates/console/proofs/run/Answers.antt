-- The part of the block that is lent on is short enough. Assumes nothing.
use Rattle.std.proofs.Common.{◌≡◌, length, take, arith}
use Rattle.io.proofs.Counting.{length-take_of_le}
use Rattle.console.specs.Exchange.{longest_block}
use Rattle.console.proofs.run.Goals as goal

pub slice_bounds-serve-end-else-input-le-LONGEST_BLOCK : goal.slice_bounds-serve-end-else-input-le-LONGEST_BLOCK
slice_bounds-serve-end-else-input-le-LONGEST_BLOCK c = length-take_of_le longest_block c.args.input.now (omega arith)

pub serve-requires-else-input-le-LONGEST_BLOCK : goal.serve-requires-else-input-le-LONGEST_BLOCK
serve-requires-else-input-le-LONGEST_BLOCK c =
    let cut : longest_block ≡ length (take longest_block c.args.input.now) = length-take_of_le longest_block c.args.input.now (omega arith) in
    omega arith
