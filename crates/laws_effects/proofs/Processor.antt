-- Who gets the processor: after dispatch and after schedule the kernel is good. Assumes nothing.
use mathlib.Core.Path.{◌≡◌, refl}
use mathlib.Core.Bool.{Bool, true, false, cond}
use mathlib.Core.List.{List, [], ◌∷◌}
use Prim.Native.Nat.{ℕ, ◌≤◌, ◌<◌}
use native.Mathlib.Omega.{arith}
use lib.Dec.{ltb}
use borrow.Author.Tests.{ltb-false}
use Rattle.kernel.specs.declared.Status.{Status}
use Rattle.kernel.specs.declared.Status.TheVariants.{Exe, Ready}
use Rattle.kernel.specs.Sizes.{task_count}
use Rattle.kernel.specs.Status.{FREE, READY, EXE, status_number, ready_queue}
use Rattle.kernel.specs.Kernel.{Bare, Kernel, task, queue, with_status}
use Rattle.kernel.specs.Moves.{move, run, dispatch, preempt, yield, schedule}
use Rattle.kernel.specs.Good.{Good, NoLater}
use Rattle.kernel.proofs.Moves.{moved_task}
use Rattle.laws_effects.specs.UnderWay.{Steady, Vacant}
use Rattle.laws_effects.proofs.Standing.{stands}
use Rattle.laws_effects.proofs.Steady.{no_later, exe, good, main_ready}
use Rattle.laws_effects.proofs.Asks.{Asks}
use Rattle.laws_effects.proofs.Changed.{movable, each, comes, leaves, restated}

-- The first ready task runs, where no task is EXE. There is one: the main task is READY.
pub dispatched : (k : Kernel) → Vacant k → Good (dispatch k)
unfolding move dispatch
dispatched k v = go (queue k ready_queue) refl
  where
    go : (xs : List ℕ) → queue k ready_queue ≡ xs → Good (run k xs)
    go [] e = absurd (main_ready v (omega arith) e)
    go (x ∷ xs) e =
        let o = rw e at (v.queues ready_queue (omega arith)).only in
        let l : x < task_count = o.0.0 in
        let was : status_number (task k x).status ≡ READY = (stands (task k x).status).in_ready.1 o.0.1 in
        let first : NoLater k (task k x).deadline (queue k ready_queue) = rw e (omega arith) in
        let m = movable v x l in
        good
        (restated v x l (omega arith) Exe (omega arith) comes ((v.runs x l).0 was))
        l
        (rw (moved_task m (with_status (task k x) Exe))
        (each (λ (y : ℕ) (r : Bare). y < task_count → status_number r.status ≡ READY → (task k x).deadline ≤ r.deadline) m (λ ly z. omega arith) (λ y ne. no_later k v.queues first y)))

-- The running task takes another status, and the first ready task runs.
pub gives_way : {k : Kernel} → Steady k → k.running < task_count → (st : Status) → (status_number st ≡ FREE → ⊥) → (status_number st ≡ EXE → ⊥)
    → Asks k k.running (task k k.running).class (task k k.running).deadline st → Good (dispatch (move k k.running (with_status (task k k.running) st)))
unfolding move
gives_way {k} s l st uses leaving asks = let runs = exe s l in dispatched _ (restated s k.running l (omega arith) st uses (leaves l leaving) asks)

-- Only if the first ready task is earlier, the running one goes to ready and the first runs.
pub scheduled : {k : Kernel} → Steady k → k.running < task_count → Good (schedule k)
unfolding preempt schedule
scheduled {k} s l = go (queue k ready_queue) refl
  where
    stays : NoLater k (task k k.running).deadline (queue k ready_queue) → Good k
    stays n = good s l (no_later k s.queues n)

    go : (xs : List ℕ) → queue k ready_queue ≡ xs → Good (yield k xs)
    go [] e = stays (rw e tt)
    go (x ∷ xs) e = yields (ltb (task k x).deadline (task k k.running).deadline) refl
      where
        yields : (b : Bool) → ltb (task k x).deadline (task k k.running).deadline ≡ b → Good (cond b (preempt k) k)
        yields true z = gives_way s l Ready (omega arith) (omega arith) ((s.runs k.running l).1 (exe s l))
        yields false z = stays (rw e (ltb-false (task k x).deadline (task k k.running).deadline z))
