-- A new task, with its share in the total. Assumes nothing.
use Rattle.std.proofs.Common.{sym}
use Rattle.kernel.specs.Kernel.{Kernel, with_total}
use Rattle.kernel.specs.Tasks.{create}
use Rattle.kernel.proofs.Shows.{then}
use Rattle.words.proofs.Numbers.{total_set}
use Rattle.creation.proofs.Creatable.{classed}
use Rattle.creation.proofs.created.Goals as goal

pub recast-requires-clause-classed : goal.recast-requires-clause-classed
recast-requires-clause-classed c = classed c.args.class c.requires.sized

pub returns : goal.returns
unfolding create
returns c =
    let n = c.joined-total in
    let r = c.recast.ensures.shows in
    rw (c.set_total.ensures, sym c.requires.lowest, sym c.first_deadline-deadline.ensures, sym n.ensures)
    (then (λ (k : Kernel). with_total k n.result) r (total_set n.result r.kept))
