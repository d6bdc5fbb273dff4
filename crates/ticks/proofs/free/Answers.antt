-- A zombie goes, and its share with it. Assumes nothing.
use Rattle.std.proofs.Common.{sym}
use Rattle.kernel.specs.Kernel.{Kernel, with_total}
use Rattle.kernel.specs.Tick.{free}
use Rattle.kernel.proofs.Shows.{then}
use Rattle.kernel.proofs.Codes.{class_nrt}
use Rattle.words.proofs.Numbers.{total_set}
use Rattle.ticks.proofs.free.Goals as goal

pub recast-requires-clause-classed : goal.recast-requires-clause-classed
recast-requires-clause-classed c = class_nrt 0

pub returns : goal.returns
unfolding free
returns c =
    let left = c.total_without-left.result in
    let a = c.recast.ensures.shows in
    rw (c.set_total.ensures, sym c.total_without-left.ensures) (then (λ (k : Kernel). with_total k left) a (total_set left a.kept))
