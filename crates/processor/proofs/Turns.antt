-- Who runs, as the words tell it. Assumes nothing.
use mathlib.Core.Path.{◌≡◌, ap, sym, subst, ◌∙◌}
use mathlib.Core.List.{List}
use Prim.Native.Nat.{ℕ, ◌+◌, ◌≤◌, ◌<◌}
use native.Mathlib.Omega.{arith}
use lib.ListN.{set}
use borrow.Author.Rules.{rules}
use Rattle.kernel.specs.declared.Class.{Class}
use Rattle.kernel.specs.declared.Status.{Status}
use Rattle.kernel.specs.declared.Status.TheVariants.{Exe, Ready}
use Rattle.kernel.specs.Sizes.{task_count}
use Rattle.kernel.specs.Status.{ready_queue}
use Rattle.kernel.specs.Kernel.{Bare, Kernel, task, period_of, with_status, with_running}
use Rattle.kernel.specs.Moves.{move, dispatch, schedule}
use Rattle.kernel.specs.Layout.{word, running_at}
use Rattle.kernel.specs.Seen.{class_in, deadline_in, seen}
use Rattle.kernel.specs.Shows.{Kept, Shows}
use Rattle.kernel.proofs.Processor.{dispatch_none, dispatch_first, schedule_none, schedule_earlier, schedule_later, preempts}
use Rattle.kernel.proofs.Shows.{then}
use Rattle.words.proofs.Numbers.{running_set}
use Rattle.words.proofs.Seen.{task_seen}
use Rattle.queues.specs.First.{First}
use Rattle.queues.specs.Moved.{filed_record, Moved}

-- The deadline that is read is the one that is seen.
deadline_is : (w : List ℕ) (x : ℕ) {d : ℕ} → x < task_count → d ≡ deadline_in w x → d ≡ (task (seen w) x).deadline
deadline_is w x l e = e ∙ sym (ap (λ (a : Bare). a.deadline) (task_seen w x l))

-- A task with another status keeps class and deadline.
pub restated : {w v : List ℕ} {i d n : ℕ} {st : Status} → i < task_count → d ≡ deadline_in w i → Moved w i (filed_record (seen w) i st d) v n → Shows v (move (seen w) i (with_status (task (seen w) i) st))
restated {w = w} {i = i} l e m = rw (deadline_is w i l e) at m.shows

-- Its deadline with its period added.
pub renewed : (w : List ℕ) (x d p : ℕ) (c : Class) → x < task_count → c ≡ class_in w x → p ≡ period_of c → d ≡ deadline_in w x → d + p ≡ (task (seen w) x).deadline + period_of (task (seen w) x).class
renewed w x _ _ _ l c p d = rw (d, p, c) (sym (ap (λ (a : Bare). a.deadline + period_of a.class) (task_seen w x l)))

pub same_below : {i n m : ℕ} → i ≡ n → n < m → i < m
same_below e l = rw e l

module _ {w : List ℕ} {x : ℕ} (k : Kept w) (f : First w ready_queue x) where
  pub none_to_run : task_count ≤ x → Shows w (dispatch (seen w))
  none_to_run l = record { kept = k; is = sym (dispatch_none _ (f.none l)) }

  pub none_ready : task_count ≤ x → Shows w (schedule (seen w))
  none_ready l = record { kept = k; is = sym (schedule_none _ (f.none l)) }

  module _ (l : x < task_count) where
    pub dispatched : {v u : List ℕ} → Shows v (move (seen w) x (with_status (task (seen w) x) Exe)) → u ≡ set v running_at x → Shows u (dispatch (seen w))
    dispatched s e = rw (e, dispatch_first (seen w) (f.some l)) (then (λ (j : Kernel). with_running j x) s (running_set x s.kept))

    -- The running task is i, and these are the deadlines that are compared.
    module _ {i first running : ℕ} (runs : (seen w).running < task_count) (is : i ≡ word w running_at) (a : first ≡ deadline_in w x) (b : running ≡ deadline_in w i) where
      now : running ≡ (task (seen w) (seen w).running).deadline
      now = deadline_is w (seen w).running runs (rw is at b)

      pub gives_way : {v u : List ℕ} → first < running → Shows v (move (seen w) i (with_status (task (seen w) i) Ready)) → Shows u (dispatch (seen v)) → Shows u (schedule (seen w))
      gives_way {u = u} h s t =
          let e = schedule_earlier (seen w) (f.some l) (omega (arith, deadline_is w x l a, now)) ∙ preempts (seen w) in
          subst (Shows u) (sym e) (then dispatch (rw is at s) t)

      pub runs_on : running ≤ first → Shows w (schedule (seen w))
      runs_on h = record { kept = k; is = sym (schedule_later (seen w) (f.some l) (omega (arith, deadline_is w x l a, now))) }

pub ruleset turns = (rules, restated, renewed, same_below, none_to_run, none_ready, dispatched, gives_way, runs_on)
