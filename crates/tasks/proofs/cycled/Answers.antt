-- The running task is idle until its deadline, or ready with the next one. Assumes nothing.
use Rattle.std.proofs.Common.{sym, ◌∙◌}
use Rattle.kernel.specs.Moves.{dispatch}
use Rattle.kernel.specs.Seen.{seen}
use Rattle.kernel.proofs.Shows.{then}
use Rattle.tasks.proofs.Fits.{renewed_fits}
use Rattle.tasks.proofs.Cycles.{cycle_before, cycle_due}
use Rattle.tasks.proofs.cycled.Goals as goal

pub returns-then-early : goal.returns-then-early
returns-then-early c =
    let i = c.running-i.ensures in
    rw (cycle_before (seen c.args.w.now) (rw i at (sym c.early.ensures ∙ c.if-early.true))) (then dispatch (rw i at c.restate.ensures) c.dispatch.ensures)

pub renew-requires-clause-next_fits : goal.renew-requires-clause-next_fits
renew-requires-clause-next_fits c = renewed_fits c.requires.sound _ (rw c.running-i.ensures c.requires.sound.good.runs.running)

pub returns : goal.returns
returns c =
    let i = c.running-i.ensures in
    rw (cycle_due (seen c.args.w.now) (rw i at (sym c.early.ensures ∙ c.if-early.false))) (then dispatch (rw i at c.renew.ensures) c.dispatch-2.ensures)
