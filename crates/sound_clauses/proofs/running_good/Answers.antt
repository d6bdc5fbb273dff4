-- The running task is a task, the earliest and in time. Assumes nothing.
use Rattle.std.proofs.Common.{◌≡◌, ap, ◌∙◌, arith}
use Rattle.kernel.specs.Status.{stop_number}
use Rattle.kernel.specs.Kernel.{task}
use Rattle.kernel.specs.Seen.{bare_in, seen}
use Rattle.kernel.proofs.Decided.{fails, passed, means}
use Rattle.words.proofs.Seen.{task_seen}
use Rattle.sound_clauses.proofs.running_good.Goals as goal

pub returns-then-not-earliest : goal.returns-then-not-earliest
returns-then-not-earliest c =
    let w = c.args.w.now in
    let r : task (seen w) (seen w).running ≡ bare_in w c.running-running.result = rw (← c.running-running.ensures) (task_seen w c.running-running.result (omega arith)) in
    fails c.earliest.ensures c.if-not-earliest.true (λ g. rw c.deadline-deadline.ensures (rw r at g.earliest))

pub returns : goal.returns
returns c =
    let w = c.args.w.now in
    let r : task (seen w) (seen w).running ≡ bare_in w c.running-running.result = rw (← c.running-running.ensures) (task_seen w c.running-running.result (omega arith)) in
    let stop = c.stop_number-stop.ensures ∙ ap stop_number c.stop-reason.ensures in
    means
    c.in_time.ensures
    (λ t.
    record {
      running = rw (← c.running-running.ensures) (omega arith);
      earliest = rw (r, ← c.deadline-deadline.ensures) (passed c.earliest.ensures c.if-not-earliest.false);
      in_time = rw (r, ← c.deadline-deadline.ensures, ← c.class-class.ensures, ← c.clock-clock.ensures, ← stop) t;
    })
    (λ g. rw (stop, c.clock-clock.ensures, c.class-class.ensures, c.deadline-deadline.ensures) (rw r at g.in_time))
