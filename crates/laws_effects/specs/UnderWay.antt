-- What holds of a kernel while a call is under way. Assumes nothing.
use Rattle.std.specs.Prelude.{◌≡◌, ℕ, ◌≤◌, ◌<◌}
use Rattle.kernel.specs.declared.Stop.TheVariants.{Overrun}
use Rattle.kernel.specs.Sizes.{task_count}
use Rattle.kernel.specs.Status.{READY, EXE, IDLE, status_number, stop_number}
use Rattle.kernel.specs.Kernel.{Bare, Kernel, task, with_running, with_stop}
use Rattle.kernel.specs.Good.{GoodWith}

-- A task that is READY or EXE has a deadline not below the clock.
abbrev pub Ahead : ℕ → Bare → Type 0
Ahead clock a = (status_number a.status ≡ READY → clock ≤ a.deadline) × (status_number a.status ≡ EXE → clock ≤ a.deadline)

-- Good but for what it says of the running task: while a call is under way no task may be EXE, or a READY one may be earlier. None is late.
abbrev pub NoneLate : Kernel → Type 0
NoneLate k = (x : ℕ) → x < task_count → Ahead k.clock (task k x)

abbrev pub Steady : Kernel → Type 0
Steady = GoodWith NoneLate

-- No task is EXE: the stored number is no task's.
abbrev pub Vacant : Kernel → Type 0
Vacant k = Steady (with_running k task_count)

-- No READY task is earlier than the running one.
abbrev pub Earliest : Kernel → Type 0
Earliest k = (x : ℕ) → x < task_count → status_number (task k x).status ≡ READY → (task k k.running).deadline ≤ (task k x).deadline

-- While a tick is under way the clock has gone on, and an IDLE task may be due, if not late. But for that the kernel is steady: as a
-- stopped one is, of which nothing is asked there.
pub record Ticking (k : Kernel) : Type 0 where
  pub steady : Steady (with_stop k Overrun)
  pub going : stop_number k.stop ≡ 0
  pub idle : (x : ℕ) → x < task_count → status_number (task k x).status ≡ IDLE → k.clock ≤ (task k x).deadline
  pub running : k.running < task_count

-- While zombies go, the running task stays the earliest.
abbrev pub Freeing : Kernel → Type 0
Freeing k = Ticking k × Earliest k
