-- A task that ends, by its class. Assumes nothing.
use Rattle.std.proofs.Common.{sym, ◌∙◌}
use Rattle.kernel.proofs.Codes.{class_nrt}
use Rattle.endings.proofs.Ends.{hard_ends, nrt_ends}
use Rattle.endings.proofs.ended.Goals as goal

pub recast-requires-clause-classed : goal.recast-requires-clause-classed
recast-requires-clause-classed c = class_nrt 0

pub returns-in-Nrt : goal.returns-in-Nrt
returns-in-Nrt c = rw (nrt_ends c.args.w.now c.args.n c.requires.is_task (sym c.class-class.ensures ∙ c.in-Nrt.is)) c.recast.ensures.shows

pub returns-in-Hard : goal.returns-in-Hard
returns-in-Hard c = rw (hard_ends c.args.w.now c.args.n c.requires.is_task (sym c.class-class.ensures ∙ c.in-Hard.is)) c.restate.ensures
