-- What holds of a kernel while a call is under way. Assumes nothing.
use mathlib.Core.Path.{◌≡◌, refl, sym}
use mathlib.Core.Bool.{Bool, true, false}
use mathlib.Core.List.{List, [], ◌∷◌}
use mathlib.Core.Logic.{◌⊎◌, inl, inr}
use Prim.Native.Nat.{ℕ, ◌≤◌, ◌<◌}
use native.Mathlib.Omega.{arith}
use Rattle.laws_chain.specs.Lists.{All, Among, Rising}
use Rattle.laws_chain.proofs.Lists.{all_among}
use Rattle.kernel.specs.Sizes.{task_count}
use Rattle.kernel.specs.Status.{READY, EXE, status_number, ready_queue, stop_number}
use Rattle.kernel.specs.Kernel.{Kernel, task, queue, hard}
use Rattle.kernel.specs.Good.{Good, GoodTask, NoLater, standing, deadline_of, Queued}
use Rattle.kernel.proofs.Deadlines.{nrt_late}
use Rattle.laws_effects.specs.UnderWay.{Earliest, Steady}
use Rattle.laws_effects.proofs.Standing.{stands}

-- ---- the ready queue

module _ (k : Kernel) (queues : Queued k) where
  -- A READY task stands in it.
  ready_among : (x : ℕ) → x < task_count → status_number (task k x).status ≡ READY → Among x (queue k ready_queue)
  ready_among x l e = (queues ready_queue (omega arith)).all x l ((stands (task k x).status).in_ready.0 e)

  -- A deadline no later than that of the first is no later than that of any READY task.
  pub no_later : {d : ℕ} → NoLater k d (queue k ready_queue) → (x : ℕ) → x < task_count → status_number (task k x).status ≡ READY → d ≤ (task k x).deadline
  no_later {d} n x l e = go (queue k ready_queue) n (queues ready_queue (omega arith)).rising (ready_among x l e)
    where
      go : (xs : List ℕ) → NoLater k d xs → Rising (deadline_of k) xs → Among x xs → d ≤ (task k x).deadline
      go [] n r m = absurd m
      go (y ∷ ys) n r (inl e) = rw (sym e) n
      go (y ∷ ys) n r (inr m) = omega (arith, all_among (λ (z : ℕ). deadline_of k y ≤ deadline_of k z) x ys r.0 m)

  -- And the other way round.
  pub first_later : {d : ℕ} → ((x : ℕ) → x < task_count → status_number (task k x).status ≡ READY → d ≤ (task k x).deadline) → NoLater k d (queue k ready_queue)
  first_later {d} f = go (queue k ready_queue) (queues ready_queue (omega arith)).only
    where
      go : (xs : List ℕ) → All (λ (x : ℕ). (x < task_count) × (standing k x ≡ ready_queue)) xs → NoLater k d xs
      go [] a = tt
      go (x ∷ xs) a = f x a.0.0 ((stands (task k x).status).in_ready.1 a.0.1)

-- ---- between good and steady

module _ {k : Kernel} (g : Good k) where
  pub earliest : Earliest k
  earliest = no_later k g.queues g.runs.earliest

  -- Where the running task, if it is HARD, is not late, no task is: an NRT deadline is above lifetime.
  pub steady_in_time : (hard (task k k.running).class ≡ true → k.clock ≤ (task k k.running).deadline) → Steady k
  steady_in_time in_time =
      let runs = go (hard (task k k.running).class) refl in
      record {
        sized = g.sized;
        tasks = g.tasks;
        queues = g.queues;
        shared = g.shared;
        semaphores = g.semaphores;
        channels = g.channels;
        clocked = g.clocked;
        runs = λ x l. (λ e. omega (arith, earliest x l e), λ e. rw ((g.tasks x l).exe.0 e) runs);
      }
    where
      go : (b : Bool) → hard (task k k.running).class ≡ b → k.clock ≤ (task k k.running).deadline
      go true e = in_time e
      go false e =
          let a = g.tasks k.running g.runs.running in
          let exe = a.exe.1 refl in
          omega (arith, g.clocked.clock, nrt_late k.clock (task k k.running).class _ (task k k.running).deadline e (omega arith) a.timely)

  pub steady : stop_number k.stop ≡ 0 → Steady k
  steady going = steady_in_time (g.runs.in_time going)

-- The stored task is EXE.
pub exe : {k : Kernel} → Steady k → k.running < task_count → status_number (task k k.running).status ≡ EXE
exe {k} s l = (s.tasks k.running l).exe.1 refl

pub good : {k : Kernel} → Steady k → k.running < task_count → Earliest k → Good k
good {k} s l e =
    record {
      sized = s.sized;
      tasks = s.tasks;
      runs = record { running = l; earliest = first_later k s.queues e; in_time = λ going h. (s.runs k.running l).1 (exe s l) };
      queues = s.queues;
      shared = s.shared;
      semaphores = s.semaphores;
      channels = s.channels;
      clocked = s.clocked;
    }

-- Unless task 0 runs it is READY, so there is a first ready task.
pub main_ready : {k : Kernel} → Steady k → (k.running ≡ 0 → ⊥) → queue k ready_queue ≡ [] → ⊥
main_ready {k} s other none = go (main.main_or_sized.main_status refl)
  where
    main : GoodTask k 0 (task k 0)
    main = s.tasks 0 (omega arith)

    go : (status_number (task k 0).status ≡ EXE) ⊎ (status_number (task k 0).status ≡ READY) → ⊥
    go (inl e) = other (sym (main.exe.0 e))
    go (inr e) = rw none at (ready_among k s.queues 0 (omega arith) e)
