-- The running task is HARD, and the clock is past its deadline. Assumes nothing.
use Rattle.std.proofs.Common.{ap, sym, ◌∙◌, ltb}
use Rattle.kernel.specs.Kernel.{Bare}
use Rattle.kernel.specs.Seen.{deadline_in, seen}
use Rattle.words.proofs.Seen.{task_seen}
use Rattle.ticks.proofs.overrun.Goals as goal

pub returns-then-hard_runs : goal.returns-then-hard_runs
returns-then-hard_runs c =
    let w = c.args.w.now in
    rw (sym c.hard_runs.ensures ∙ c.if-hard_runs.true)
    (λ j. ltb ((c.deadline-deadline.ensures ∙ ap (deadline_in w) c.running-i.ensures ∙ sym (ap (λ (a : Bare). a.deadline) (task_seen w (seen w).running c.requires))) j) (c.clock.ensures j))
