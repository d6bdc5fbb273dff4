-- The stored share total is the sum of the shares, one task a turn. Assumes nothing.
use Rattle.sound_clauses.proofs.Sum.{summing}
use Rattle.sound_clauses.proofs.shares_good.Goals as goal

pub counted_share-total-requires : goal.counted_share-total-requires
counted_share-total-requires c = search summing

pub overflow_add-total : goal.overflow_add-total
overflow_add-total c = search summing

pub loop-x-preserved : goal.loop-x-preserved
loop-x-preserved c = search summing

pub returns-then-share-total : goal.returns-then-share-total
returns-then-share-total c = search summing

pub returns : goal.returns
returns c = search summing
