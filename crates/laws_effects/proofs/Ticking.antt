-- The clock goes on and the stop changes, and nothing else: the kernel stops, or a tick is under way. Assumes nothing.
use mathlib.Core.Path.{◌≡◌, refl}
use mathlib.Core.Bool.{false}
use mathlib.Core.Logic.{◌↔◌, inl}
use Prim.Native.Nat.{ℕ, ◌+◌, ◌≤◌, ◌<◌}
use native.Mathlib.Omega.{arith}
use borrow.Author.Tests.{ltb-false}
use Rattle.laws_chain.proofs.Lists.{all_among}
use Rattle.kernel.specs.declared.Class.{Class}
use Rattle.kernel.specs.declared.Class.TheVariants.{Nrt, Hard}
use Rattle.kernel.specs.declared.Stop.{Stop}
use Rattle.kernel.specs.declared.Stop.TheVariants.{Overrun}
use Rattle.kernel.specs.Sizes.{task_count, lifetime}
use Rattle.kernel.specs.Status.{IDLE, status_number, idle_queue, stop_number}
use Rattle.kernel.specs.Kernel.{Bare, Kernel, task, queue, with_clock, with_stop}
use Rattle.kernel.specs.Tick.{overrun}
use Rattle.kernel.specs.Good.{Good, GoodTask, GoodChannel, Sized, Shared, Timely, IdleAhead}
use Rattle.laws_effects.specs.UnderWay.{Steady, Ticking}
use Rattle.laws_effects.proofs.Standing.{stands}
use Rattle.laws_effects.proofs.Steady.{earliest, first_later, steady_in_time}
use Rattle.laws_effects.proofs.Kept.{names_kept}
use Rattle.laws_effects.proofs.Sweep.{NoneDue}
use Rattle.laws_effects.proofs.Sessions.{busy, fewer}

-- A deadline that was early enough still is.
timely_later : {m n : ℕ} (s d : ℕ) (c : Class) → m ≤ n → Timely m c s d → Timely n c s d
timely_later s d (Hard p c) l t = omega arith
timely_later s d (Nrt p) l t = t

module _ (k : Kernel) (n : ℕ) (w : Stop) where
  abbrev then : Kernel
  then = with_stop (with_clock k n) w

  sized : Sized k → Sized then
  sized s = record { tasks = s.tasks; queues = s.queues; semaphores = s.semaphores; channels = s.channels; sessions = s.sessions }

  shared : Shared k → Shared then
  shared s = record { total_is = s.total_is; total_fits = s.total_fits }

  channel_good : {c : ℕ} → GoodChannel k c → GoodChannel then c
  channel_good g = fewer (record { channel_is = refl; session_is = λ t l. inl refl; in_use = busy g }) g

  task_good : {x : ℕ} {a : Bare} → k.clock ≤ n → IdleAhead (stop_number w) (status_number a.status) n a.deadline → GoodTask k x a → GoodTask then x a
  task_good {x} {a} l i g =
      record {
        exe = g.exe;
        main_or_sized = g.main_or_sized;
        timely = timely_later _ a.deadline a.class l g.timely;
        suited = g.suited;
        waits = names_kept then k a.status (λ q z u. u) g.waits;
        idle_ahead = i;
      }

  -- A kernel that stops is good whatever deadlines are behind the clock.
  pub stopped : (stop_number w ≡ 0 → ⊥) → k.clock ≤ n → n ≤ lifetime → (n ≡ lifetime) ↔ (stop_number w ≡ 2) → Good k → Good then
  stopped not_Going l before expired g =
      record {
        sized = sized g.sized;
        tasks = λ x lx. task_good l (λ z. absurd (not_Going z)) (g.tasks x lx);
        runs = record { running = g.runs.running; earliest = first_later then g.queues (earliest g); in_time = λ z. absurd (not_Going z) };
        queues = g.queues;
        shared = shared g.shared;
        semaphores = g.semaphores;
        channels = λ c lc. channel_good (g.channels c lc);
        clocked = record { clock = before; expired = expired };
      }

-- A tick that does not stop begins.
pub begins : {k : Kernel} → Good k → stop_number k.stop ≡ 0 → k.clock + 1 < lifetime → overrun (with_clock k (k.clock + 1)) ≡ false
    → Ticking (with_clock k (k.clock + 1))
begins {k} g going l e =
    record {
      steady = steady_in_time (stopped k (k.clock + 1) Overrun (omega arith) (omega arith) (omega arith) (omega arith) g)
          (λ h. ltb-false (task k k.running).deadline (k.clock + 1) (rw h at e));
      going = going;
      idle = λ x lx i. omega (arith, (g.tasks x lx).idle_ahead going i);
      running = g.runs.running;
    }

-- It ends: no IDLE task is due.
pub goes_on : {k : Kernel} → Ticking k → NoneDue k (queue k idle_queue) → Steady k
goes_on {k} t none =
    let s = t.steady in
    let going = t.going in
    record {
      sized = sized (with_stop k Overrun) k.clock k.stop s.sized;
      tasks = λ x lx. task_good (with_stop k Overrun) k.clock k.stop (omega arith) (λ z i. ahead x lx i) (s.tasks x lx);
      queues = s.queues;
      shared = shared (with_stop k Overrun) k.clock k.stop s.shared;
      semaphores = s.semaphores;
      channels = λ c lc. channel_good (with_stop k Overrun) k.clock k.stop (s.channels c lc);
      clocked = record { clock = s.clocked.clock; expired = (λ z. absurd (omega (arith, s.clocked.expired.0 z)), λ z. omega arith) };
      runs = s.runs;
    }
  where
    ahead : (x : ℕ) → x < task_count → status_number (task k x).status ≡ IDLE → k.clock < (task k x).deadline
    ahead x l i =
        let stood = (t.steady.queues idle_queue (omega arith)).all x l ((stands (task k x).status).in_idle.0 i) in
        all_among (λ (y : ℕ). k.clock < (task k y).deadline) x (queue k idle_queue) none stood
