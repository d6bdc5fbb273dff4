-- The task killed ends; if it was running, the first ready one runs. Assumes nothing.
use Rattle.std.proofs.Common.{sym, ◌∙◌}
use Rattle.kernel.specs.Moves.{dispatch}
use Rattle.kernel.specs.Seen.{seen}
use Rattle.kernel.proofs.Shows.{then}
use Rattle.refusals.proofs.Answers.{allows}
use Rattle.endings.proofs.Ends.{kills_itself, kills_another}
use Rattle.endings.proofs.killed.Goals as goal

pub finish-requires-clause-is_task : goal.finish-requires-clause-is_task
finish-requires-clause-is_task c = (allows c.requires).allowed.1.0

pub returns-then-n-running : goal.returns-then-n-running
returns-then-n-running c =
    rw (kills_itself (seen c.args.w.now) c.args.n (c.if-n-running.true ∙ c.running-running.ensures)) (then dispatch c.finish.ensures c.dispatch.ensures)

pub returns : goal.returns
returns c = rw (kills_another (seen c.args.w.now) c.args.n (λ e. c.if-n-running.false (e ∙ sym c.running-running.ensures))) c.finish.ensures
