-- A task is good, clause by clause. Assumes nothing.
use Rattle.std.proofs.Common.{◌≡◌, ◌<◌, ℕ, List}
use mathlib.Core.Logic.{◌↔◌}
use Rattle.kernel.specs.declared.Stop.{Stop}
use Rattle.kernel.specs.declared.Task.{Task}
use Rattle.kernel.specs.Sizes.{task_count}
use Rattle.kernel.specs.Status.{status_number, stop_number}
use Rattle.kernel.specs.Kernel.{task}
use Rattle.kernel.specs.Layout.{word, clock_at, stop_at, running_at}
use Rattle.kernel.specs.Codes.{stop_of}
use Rattle.kernel.specs.Good.{Names, GoodTask}
use Rattle.kernel.specs.Seen.{task_in, seen}
use Rattle.kernel.proofs.Decided.{fails, passed, means}
use Rattle.words.proofs.Seen.{task_seen}
use Rattle.sound_clauses.specs.Task.{Keeps}
use Rattle.sound_clauses.proofs.Tasks.{clauses}
use Rattle.sound_clauses.proofs.task_good.Goals as goal

-- The clauses, of the kernel's numbers and the task's record that are read.
read
    : (w : List ℕ) (x : ℕ) → x < task_count
    → {clock stop running n : ℕ} {reason : Stop} {t : Task}
    → clock ≡ word w clock_at
    → reason ≡ stop_of (word w stop_at)
    → stop ≡ stop_number reason
    → running ≡ word w running_at
    → t ≡ task_in w x
    → n ≡ status_number t.status
    → GoodTask (seen w) x (task (seen w) x) ↔ (Keeps clock stop running x t.class n t.deadline × Names (seen w) t.status)
read w x l clock reason stop running t n = rw (n, t, running, stop, reason, clock, task_seen w x l) (clauses _ _ _)

pub returns-then-not-exe_stored : goal.returns-then-not-exe_stored
returns-then-not-exe_stored c =
    let keeps = read _ c.args.x c.requires c.clock-clock.ensures c.stop-reason.ensures c.stop_number-stop.ensures c.running-running.ensures c.task-t.ensures c.status_number-n.ensures in
    fails c.exe_stored.ensures c.if-not-exe_stored.true (λ g. (keeps.0 g).0.exe)

pub returns-then-not-main_or_sized : goal.returns-then-not-main_or_sized
returns-then-not-main_or_sized c =
    let keeps = read _ c.args.x c.requires c.clock-clock.ensures c.stop-reason.ensures c.stop_number-stop.ensures c.running-running.ensures c.task-t.ensures c.status_number-n.ensures in
    fails c.main_or_sized.ensures c.if-not-main_or_sized.true (λ g. (keeps.0 g).0.main_or_sized)

pub returns-then-not-timely : goal.returns-then-not-timely
returns-then-not-timely c =
    let keeps = read _ c.args.x c.requires c.clock-clock.ensures c.stop-reason.ensures c.stop_number-stop.ensures c.running-running.ensures c.task-t.ensures c.status_number-n.ensures in
    fails c.timely.ensures c.if-not-timely.true (λ g. (keeps.0 g).0.timely)

pub returns-then-not-suited : goal.returns-then-not-suited
returns-then-not-suited c =
    let keeps = read _ c.args.x c.requires c.clock-clock.ensures c.stop-reason.ensures c.stop_number-stop.ensures c.running-running.ensures c.task-t.ensures c.status_number-n.ensures in
    fails c.suited.ensures c.if-not-suited.true (λ g. (keeps.0 g).0.suited)

pub returns-then-not-idle_ahead : goal.returns-then-not-idle_ahead
returns-then-not-idle_ahead c =
    let keeps = read _ c.args.x c.requires c.clock-clock.ensures c.stop-reason.ensures c.stop_number-stop.ensures c.running-running.ensures c.task-t.ensures c.status_number-n.ensures in
    fails c.idle_ahead.ensures c.if-not-idle_ahead.true (λ g. (keeps.0 g).0.idle_ahead)

pub returns : goal.returns
returns c =
    let keeps = read _ c.args.x c.requires c.clock-clock.ensures c.stop-reason.ensures c.stop_number-stop.ensures c.running-running.ensures c.task-t.ensures c.status_number-n.ensures in
    means
    c.names.ensures
    (λ h.
    keeps.1
    (search (h, passed c.exe_stored.ensures c.if-not-exe_stored.false, passed c.main_or_sized.ensures c.if-not-main_or_sized.false, passed c.timely.ensures c.if-not-timely.false, passed c.suited.ensures c.if-not-suited.false, passed c.idle_ahead.ensures c.if-not-idle_ahead.false)))
    (λ g. (keeps.0 g).1)
