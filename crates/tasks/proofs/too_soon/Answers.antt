-- A HARD task is one of the table, and is too soon while it is early; an NRT one never is. Assumes nothing.
use Rattle.std.proofs.Common.{sym, ◌∙◌}
use Rattle.tasks.proofs.Inside.{hard_inside}
use Rattle.tasks.proofs.too_soon.Goals as goal

pub early-requires : goal.early-requires
early-requires c = hard_inside c.args.w.now c.args.n (sym c.is_hard.ensures ∙ c.if-is_hard.true)
