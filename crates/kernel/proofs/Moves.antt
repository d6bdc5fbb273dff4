-- What a move does to each record and each queue, and that it keeps the queues in order. Assumes nothing.
use mathlib.Core.Path.{◌≡◌, refl, ap, sym, subst₂, ◌∙◌}
use mathlib.Core.List.{List, []}
use Prim.Native.Nat.{ℕ, ◌<◌}
use native.Mathlib.Omega.{arith}
use native.Mathlib.Decide.{ℕ_discrete}
use lib.ListN.{length, get_or, set, length-set, get_or-map}
use lib.Seq.{get_or-set_same, get_or-set_other, map-set_same, set-set}
use lib.Dec.{leb}
use Rattle.laws_chain.specs.Lists.{insert, remove}
use Rattle.laws_chain.specs.Filing.{Queue}
use Rattle.laws_chain.proofs.Lists.{remove_absent}
use Rattle.laws_chain.proofs.Filing.{absent, loosened, loose_here, loose_there, queue_left, queue_joined}
use Rattle.kernel.specs.declared.Class.{Class}
use Rattle.kernel.specs.Sizes.{task_count}
use Rattle.kernel.specs.Status.{queue_of, queue_count}
use Rattle.kernel.specs.Kernel.{Bare, Kernel, task, queue, blank, with_tasks}
use Rattle.kernel.specs.Moves.{out, move}
use Rattle.kernel.specs.Good.{standing, deadline_of, Queued}

-- A move changes the records and the queues, and nothing else.
pub move_is : (k : Kernel) (i : ℕ) (a : Bare) → move k i a ≡ with_tasks k (set k.tasks i a) (move k i a).queues
unfolding move
move_is k i a = refl

pub move_sized : (k : Kernel) (i : ℕ) (a : Bare) → length (move k i a).queues ≡ length k.queues
unfolding move
move_sized k i a = length-set (out k i) (queue_of a.status) _ ∙ length-set k.queues (standing k i) _

-- A kernel in which task i can be moved: it has the right sizes, and its queues are in order.
pub record Movable (k : Kernel) (i : ℕ) : Type 0 where
  pub tasks : length k.tasks ≡ task_count
  pub lists : length k.queues ≡ queue_count
  pub queues : Queued k
  pub is_task : i < task_count

module _ {k : Kernel} {i : ℕ} (m : Movable k i) where
  -- Once i is out, each queue is without it, the one in which it stood and the others.
  out_queue : (q : ℕ) → q < queue_count → get_or (out k i) q [] ≡ remove i (queue k q)
  out_queue q l = go (ℕ_discrete q (standing k i))
    where
      go : Dec (q ≡ standing k i) → get_or (out k i) q [] ≡ remove i (queue k q)
      go (yes e) = rw e (get_or-set_same k.queues (standing k i) _ [] (let h = m.lists in omega arith))
      go (no ne) = get_or-set_other k.queues (standing k i) q _ [] ne ∙ sym (remove_absent i (queue k q) (absent i (m.queues q l) (λ e. ne (sym e))))

  -- These queues are in order, for i stands in none.
  pub out_queues : (q : ℕ) → q < queue_count → Queue task_count (loosened queue_count i (standing k)) (deadline_of k) q (remove i (queue k q))
  out_queues q l =
      queue_left (m.queues q l) (loose_there queue_count i (standing k)) (λ x ne. refl) m.is_task (λ e. let h = loose_here queue_count i (standing k) in omega arith)

  module _ (a : Bare) where
    pub moved_task : task (move k i a) i ≡ a
    unfolding move
    moved_task = get_or-set_same k.tasks i a blank (let h = m.tasks in let l = m.is_task in omega arith)

    pub kept_task : (x : ℕ) → (x ≡ i → ⊥) → task (move k i a) x ≡ task k x
    unfolding move
    kept_task x ne = get_or-set_other k.tasks i x a blank ne

    pub moved_place : standing (move k i a) i ≡ queue_of a.status
    moved_place = ap (λ (b : Bare). queue_of b.status) moved_task

    pub kept_place : (x : ℕ) → (x ≡ i → ⊥) → standing (move k i a) x ≡ standing k x
    kept_place x ne = ap (λ (b : Bare). queue_of b.status) (kept_task x ne)

    kept_deadline : (x : ℕ) → (x ≡ i → ⊥) → deadline_of (move k i a) x ≡ deadline_of k x
    kept_deadline x ne = ap (λ (b : Bare). b.deadline) (kept_task x ne)

    pub moved_queue : queue_of a.status < queue_count
        → queue (move k i a) (queue_of a.status) ≡ insert (λ x. leb (deadline_of k x) a.deadline) i (remove i (queue k (queue_of a.status)))
    unfolding move
    moved_queue l =
        let h = m.lists in
        get_or-set_same (out k i) (queue_of a.status) _ [] (omega (arith, length-set k.queues (standing k i) (remove i (queue k (standing k i)))))
        ∙ ap (insert (λ x. leb (deadline_of k x) a.deadline) i) (out_queue (queue_of a.status) l)

    pub kept_queue : (q : ℕ) → q < queue_count → (q ≡ queue_of a.status → ⊥) → queue (move k i a) q ≡ remove i (queue k q)
    unfolding move
    kept_queue q l ne = get_or-set_other (out k i) (queue_of a.status) q _ [] ne ∙ out_queue q l

    -- **moved_queues**: a move keeps every queue in order: exactly its tasks, once each, by rising deadline.
    pub moved_queues : Queued (move k i a)
    moved_queues q l = go (ℕ_discrete q (queue_of a.status))
      where
        passed : (x : ℕ) → leb (deadline_of k x) a.deadline ≡ leb (deadline_of k x) (deadline_of (move k i a) i)
        passed x = ap (λ (b : Bare). leb (deadline_of k x) b.deadline) (sym moved_task)

        go : Dec (q ≡ queue_of a.status) → Queue task_count (standing (move k i a)) (deadline_of (move k i a)) q (queue (move k i a) q)
        go (yes e) =
            rw (e, moved_queue (rw (sym e) l))
            (queue_joined (out_queues (queue_of a.status) (rw (sym e) l)) (λ x ne. kept_place x ne ∙ sym (loose_there queue_count i (standing k) x ne)) kept_deadline _ passed m.is_task
            (λ z. let h = loose_here queue_count i (standing k) in omega arith) moved_place)
        go (no ne) = rw (kept_queue q l ne) (queue_left (m.queues q l) kept_place kept_deadline m.is_task (λ z. ne (sym z ∙ moved_place)))

-- ---- another class first

-- A record, and the kernel where task i has it, with another class.
abbrev pub of_class : Bare → Class → Bare
of_class a c = record { class = c; status = a.status; deadline = a.deadline }

abbrev pub reclassed : Kernel → ℕ → Class → Kernel
reclassed k i c = with_tasks k (set k.tasks i (of_class (task k i) c)) k.queues

-- It stands where it stood, with the deadline that it had: so the queues stay in order, and a move gives what it gave.
module _ (k : Kernel) (i : ℕ) (c : Class) where
  told : (f : Bare → ℕ) → f (of_class (task k i) c) ≡ f (task k i) → (x : ℕ) → f (task (reclassed k i c) x) ≡ f (task k x)
  told f e x =
      sym (get_or-map f (reclassed k i c).tasks x blank) ∙ ap (λ (ns : List ℕ). get_or ns x (f blank)) (map-set_same f k.tasks i _ blank e) ∙ get_or-map f k.tasks x blank

  pub reclassed_standing : standing (reclassed k i c) ≡ standing k
  reclassed_standing = λ j x. told (λ a. queue_of a.status) refl x j

  pub reclassed_deadlines : deadline_of (reclassed k i c) ≡ deadline_of k
  reclassed_deadlines = λ j x. told (λ a. a.deadline) refl x j

  pub reclassed_queues : Queued k → Queued (reclassed k i c)
  reclassed_queues h q l =
      subst₂ (λ (p d : ℕ → ℕ). Queue task_count p d q (queue k q)) (sym reclassed_standing) (sym reclassed_deadlines) (h q l)

  pub reclassed_move : (a : Bare) → move (reclassed k i c) i a ≡ move k i a
  unfolding move
  reclassed_move a = λ j. with_tasks k (set-set k.tasks i (of_class (task k i) c) a j) (from (reclassed_standing j i) (reclassed_deadlines j))
    where
      from : ℕ → (ℕ → ℕ) → List (List ℕ)
      from p deadline =
          let qs = set k.queues p (remove i (queue k p)) in
          let q = queue_of a.status in
          set qs q (insert (λ x. leb (deadline x) a.deadline) i (get_or qs q []))
