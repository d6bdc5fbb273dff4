-- The running task is the earliest, and the ready queue is served in order. Assumes nothing.
use mathlib.Core.Path.{◌≡◌, sym, ap, subst, ◌∙◌}
use mathlib.Core.List.{List}
use Prim.Native.Nat.{ℕ, ◌≤◌, ◌<◌}
use native.Mathlib.Omega.{arith}
use native.Mathlib.Decide.{ℕ_discrete}
use lib.ListN.{length-set}
use lib.Dec.{leb}
use Rattle.laws_chain.specs.Lists.{Among, insert, remove}
use Rattle.laws_chain.specs.Filing.{Queue}
use Rattle.laws_chain.proofs.Filing.{loose_there}
use Rattle.kernel.specs.declared.Class.TheVariants.{Nrt}
use Rattle.kernel.specs.Sizes.{task_count, nrt_deadline}
use Rattle.kernel.specs.Status.{FREE, status_number, queue_of, queue_count, ready_queue}
use Rattle.kernel.specs.Kernel.{Bare, Kernel, task, queue}
use Rattle.kernel.specs.Moves.{move}
use Rattle.kernel.specs.Seen.{seen}
use Rattle.kernel.specs.Good.{Good, Timely, standing, deadline_of}
use Rattle.kernel.specs.Sound.{Sound}
use Rattle.kernel.proofs.Moves.{Movable, move_sized, out_queues, moved_queue, kept_queue, moved_queues}
use Rattle.kernel.proofs.Processor.{dispatch_first}
use Rattle.kernel.proofs.Deadlines.{hard_before_nrt}
use Rattle.laws_effects.proofs.Standing.{stands}
use Rattle.laws_effects.proofs.Steady as Steady
use Rattle.laws_promises.specs.Earliest.{Before, IsReady, QueuesKept, TieRule, EarliestFirst}
use Rattle.laws_promises.proofs.Before.{rising_before, insert_before, insert_behind, remove_before}

module _ {k : Kernel} (o : QueuesKept k) where
  pub queue_standing : Queue task_count (standing k) (deadline_of k) ready_queue (queue k ready_queue)
  queue_standing = o.queues ready_queue (omega arith)

  stands_ready : {x : ℕ} → IsReady k x → standing k x ≡ ready_queue
  stands_ready {x} h = (stands (task k x).status).in_ready.0 h.status

  among : {x : ℕ} → IsReady k x → Among x (queue k ready_queue)
  among {x} h = queue_standing.all x h.is_task (stands_ready h)

  pub movable : (i : ℕ) → i < task_count → Movable k i
  movable i l = record { tasks = o.tasks; lists = o.lists; queues = o.queues; is_task = l }

  -- Where i becomes ready, it is inserted among the other ready ones.
  joined : (i : ℕ) (a : Bare) → i < task_count → queue_of a.status ≡ ready_queue
      → queue (move k i a) ready_queue ≡ insert (λ x. leb (deadline_of k x) a.deadline) i (remove i (queue k ready_queue))
  joined i a l q =
      subst (λ (n : ℕ). queue (move k i a) n ≡ insert (λ x. leb (deadline_of k x) a.deadline) i (remove i (queue k n))) q
      (moved_queue (movable i l) a (rw q (omega arith)))

  pub joins : (i : ℕ) (a : Bare) → i < task_count → queue_of a.status ≡ ready_queue → (x : ℕ) → IsReady k x → (x ≡ i → ⊥) → (task k x).deadline ≤ a.deadline
      → Before x i (queue (move k i a) ready_queue)
  joins i a li q x h ne l =
      let out = out_queues (movable i li) ready_queue (omega arith) in
      rw (joined i a li q)
      (insert_behind (deadline_of k) a.deadline i x l (remove i (queue k ready_queue)) out.rising
      (out.all x h.is_task (loose_there queue_count i (standing k) x ne ∙ stands_ready h)))

  stays : (i : ℕ) (a : Bare) → i < task_count → (x y : ℕ) → (x ≡ i → ⊥) → (y ≡ i → ⊥) → Before x y (queue k ready_queue) → Before x y (queue (move k i a) ready_queue)
  stays i a l x y nx ny b = go (ℕ_discrete ready_queue (queue_of a.status))
    where
      out : Before x y (remove i (queue k ready_queue))
      out = remove_before i x y nx ny (queue k ready_queue) b

      go : Dec (ready_queue ≡ queue_of a.status) → Before x y (queue (move k i a) ready_queue)
      go (yes e) = rw (joined i a l (sym e)) (insert_before _ i x y (remove i (queue k ready_queue)) out)
      go (no ne) = rw (kept_queue (movable i l) a ready_queue (omega arith) ne) out

  -- **tie_rule**: of any kernel whose queues are in order.
  pub tie_rule : TieRule k
  unfolding move
  tie_rule =
      record {
        joins = λ i a l e. joins i a l (ap queue_of e);
        stays = stays;
        again = λ i a l. record { tasks = length-set k.tasks i a ∙ o.tasks; lists = move_sized k i a ∙ o.lists; queues = moved_queues (movable i l) a };
      }

module _ {k : Kernel} (g : Good k) where
  pub queues_kept : QueuesKept k
  queues_kept = record { tasks = g.sized.tasks; lists = g.sized.queues; queues = g.queues }

  earlier : (x y : ℕ) → IsReady k x → IsReady k y → (task k x).deadline < (task k y).deadline → Before x y (queue k ready_queue)
  earlier x y hx hy l = rising_before (deadline_of k) x y l (queue k ready_queue) (queue_standing queues_kept).rising (among queues_kept hx) (among queues_kept hy)

  in_use : {x : ℕ} → IsReady k x → status_number (task k x).status ≡ FREE → ⊥
  in_use h z = let e = h.status in omega arith

  -- An NRT deadline, by its priority.
  nrt_deadline_of : (x p : ℕ) → IsReady k x → (task k x).class ≡ Nrt p → (task k x).deadline ≡ nrt_deadline p
  nrt_deadline_of x p h e = (subst (λ c. Timely k.clock c (status_number (task k x).status) (task k x).deadline) e (g.tasks x h.is_task).timely).1 (in_use h)

  good_earliest_first : EarliestFirst k
  good_earliest_first =
      record {
        runs = λ x h. Steady.earliest g x h.is_task h.status;
        taken = λ x xs e. ap (λ (j : Kernel). j.running) (dispatch_first k e);
        earlier = earlier;
        hard_first = λ x y hx hy going h n. earlier x y hx hy (hard_before_nrt g going x y hx.is_task hy.is_task h n (in_use hy));
        by_priority = λ x y p q hx hy ex ey l.
            earlier x y hx hy (let a = nrt_deadline_of x p hx ex in let b = nrt_deadline_of y q hy ey in omega arith);
        ties = tie_rule queues_kept;
      }

-- **earliest_first**: in sound words the running deadline is no later than any ready one, and the ready queue is served by deadline and,
-- of equal deadlines, in the order of joining.
pub earliest_first : {w : List ℕ} → Sound w → EarliestFirst (seen w)
earliest_first h = good_earliest_first h.good
