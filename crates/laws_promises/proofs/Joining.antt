-- What is fair over one move, and over dispatch and schedule. Assumes nothing.
use mathlib.Core.Path.{◌≡◌, refl, sym, ap, subst, ◌∙◌}
use mathlib.Core.Bool.{Bool, true, false, cond}
use mathlib.Core.List.{List, [], ◌∷◌}
use Prim.Native.Nat.{ℕ, ◌≤◌, ◌<◌}
use native.Mathlib.Omega.{arith}
use native.Mathlib.Decide.{ℕ_discrete}
use lib.ListN.{get_or}
use lib.Dec.{ltb}
use Rattle.kernel.specs.declared.Status.TheVariants.{Exe, Ready}
use Rattle.kernel.specs.Sizes.{task_count}
use Rattle.kernel.specs.Status.{READY, EXE, status_number, ready_queue}
use Rattle.kernel.specs.Kernel.{Bare, Kernel, task, queue, blank, with_status}
use Rattle.kernel.specs.Moves.{move, run, dispatch, preempt, yield, schedule}
use Rattle.kernel.specs.Good.{Good}
use Rattle.kernel.proofs.Moves.{Movable, moved_task, kept_task}
use Rattle.laws_effects.specs.UnderWay.{Ticking}
use Rattle.laws_effects.proofs.Standing.{stands}
use Rattle.laws_effects.proofs.Steady.{exe}
use Rattle.laws_promises.specs.Earliest.{Before, IsReady, QueuesKept}
use Rattle.laws_promises.specs.Fair.{Fair}
use Rattle.laws_promises.proofs.Before.{never_first}
use Rattle.laws_promises.proofs.Earliest.{movable, queue_standing, joins, tie_rule, queues_kept}

-- The deadline in a record.
abbrev deadline_in : Bare → ℕ
deadline_in a = a.deadline

-- What the same records hold at a number.
same_record : {ts us : List Bare} → ts ≡ us → (x : ℕ) → get_or ts x blank ≡ get_or us x blank
same_record e x = ap (λ (rs : List Bare). get_or rs x blank) e

-- A task with the same record is ready too.
as_ready : {k j : Kernel} {x : ℕ} → task j x ≡ task k x → IsReady k x → IsReady j x
as_ready e h = record { is_task = h.is_task; status = rw e h.status }

-- ---- all stay ready

-- From k to j all that are ready stay so, as they are, and who joins stands behind: nobody leaves ready.
record Grows (k j : Kernel) : Type 0 where
  kept : (x : ℕ) → IsReady k x → task j x ≡ task k x
  stays : (x y : ℕ) → IsReady k x → IsReady k y → Before x y (queue k ready_queue) → Before x y (queue j ready_queue)
  joins : (x y : ℕ) → IsReady k x → (IsReady k y → ⊥) → IsReady j y → (task k x).deadline ≤ (task j y).deadline → Before x y (queue j ready_queue)

-- What is fair from j on is fair from k on.
abbrev pub Onward : Kernel → Kernel → Type 0
Onward k j = (l : Kernel) → Fair j l → Fair k l

module _ {k j : Kernel} (g : Grows k j) where
  on : {x : ℕ} → IsReady k x → IsReady j x
  on {x} h = as_ready (g.kept x h) h

  onward : Onward k j
  onward l f =
      record {
        deadline = λ x h z. f.deadline x (on h) z ∙ ap deadline_in (g.kept x h);
        stays = λ x y hx hy zx zy b. f.stays x y (on hx) (on hy) zx zy (g.stays x y hx hy b);
        joins = λ x y hx ny zx zy le.
            elim (ℕ_discrete (status_number (task j y).status) READY) [
              | yes e ↦
                  let hy : IsReady j y = record { is_task = zy.is_task; status = e } in
                  f.stays x y (on hx) hy zx zy
                  (g.joins x y hx ny hy (omega (arith, f.deadline x (on hx) zx, f.deadline y hy zy, ap deadline_in (g.kept x hx))))
              | no ne ↦ f.joins x y (on hx) (λ h. ne h.status) zx zy le
            ];
        taken = λ x y hx hy b. f.taken x y (on hx) (on hy) (g.stays x y hx hy b);
      }

-- A task that is not ready moves.
module _ {k : Kernel} (o : QueuesKept k) (i : ℕ) (a : Bare) (l : i < task_count) (out : IsReady k i → ⊥) where
  m : Movable k i
  m = movable o i l

  other : {x : ℕ} → IsReady k x → x ≡ i → ⊥
  other h e = out (subst (IsReady k) e h)

  moved : Grows k (move k i a)
  moved =
      record {
        kept = λ x h. kept_task m a x (other h);
        stays = λ x y hx hy. (tie_rule o).stays i a l x y (other hx) (other hy);
        joins = λ x y hx ny hy le.
            elim (ℕ_discrete y i) [
              | yes e ↦
                  let here : task (move k i a) y ≡ a = rw e (moved_task m a) in
                  rw e (joins o i a l ((stands a.status).in_ready.0 (rw here at hy.status)) x hx (other hx) (rw here at le))
              | no ne ↦ absurd (ny (as_ready (sym (kept_task m a y ne)) hy))
            ];
      }

  pub moves : Onward k (move k i a)
  moves = onward moved

-- Neither a record nor a queue changes.
pub beside : {k j : Kernel} → j.tasks ≡ k.tasks → j.queues ≡ k.queues → Onward k j
beside t q =
    onward
    (record {
      kept = λ x h. same_record t x;
      stays = λ x y hx hy b. rw q b;
      joins = λ x y hx ny hy le. absurd (ny (as_ready (sym (same_record t y)) hy));
    })

-- ---- nobody joins

-- r is no ready task that stands behind another.
abbrev Unpassed : Kernel → ℕ → Type 0
Unpassed k r = (x : ℕ) → IsReady k r → Before x r (queue k ready_queue) → ⊥

-- Who is ready in j was so in k, with the same record.
stand : {k j : Kernel} → ((x : ℕ) → IsReady j x → task j x ≡ task k x)
    → ((x y : ℕ) → IsReady j x → IsReady j y → Before x y (queue k ready_queue) → Before x y (queue j ready_queue)) → Unpassed k j.running → Fair k j
stand {k} same order u =
    record {
      deadline = λ x h z. ap deadline_in (same x z);
      stays = λ x y hx hy zx zy. order x y zx zy;
      joins = λ x y hx ny zx zy le. absurd (ny (as_ready (sym (same y zy)) zy));
      taken = λ x y hx hy b e. u x (subst (IsReady k) (sym e) hy) (subst (λ (z : ℕ). Before x z (queue k ready_queue)) (sym e) b);
    }

-- A task moves that is not ready then.
pub leaves : {k j : Kernel} → QueuesKept k → (i : ℕ) (a : Bare) → i < task_count → (status_number a.status ≡ READY → ⊥)
    → j.tasks ≡ (move k i a).tasks → j.queues ≡ (move k i a).queues → Unpassed k j.running → Fair k j
leaves {k} {j} o i a l out t q u =
    stand (λ x h. same_record t x ∙ kept_task m a x (other h)) (λ x y hx hy b. rw q ((tie_rule o).stays i a l x y (other hx) (other hy) b)) u
  where
    m : Movable k i
    m = movable o i l

    other : {x : ℕ} → IsReady j x → x ≡ i → ⊥
    other {x} h e =
        let here : task j x ≡ a = same_record t x ∙ rw e (moved_task m a) in
        out (rw here at h.status)

-- ---- who gets the processor

-- While a call is under way: the queues are in order, and the stored task is EXE.
pub record Orderly (k : Kernel) : Type 0 where
  pub order : QueuesKept k
  pub is_task : k.running < task_count
  pub exe : status_number (task k k.running).status ≡ EXE

pub good_orderly : {k : Kernel} → Good k → Orderly k
good_orderly {k} g = record { order = queues_kept g; is_task = g.runs.running; exe = (g.tasks k.running g.runs.running).exe.1 refl }

pub ticking_orderly : {k : Kernel} → Ticking k → Orderly k
ticking_orderly t =
    let s = t.steady in
    record { order = record { tasks = s.sized.tasks; lists = s.sized.queues; queues = s.queues }; is_task = t.running; exe = exe s t.running }

-- So it is not ready.
pub runs : {k : Kernel} → Orderly k → IsReady k k.running → ⊥
runs o h = let e = o.exe in let z = h.status in omega arith

-- Who runs on was not ready.
pub runs_on : {k : Kernel} → Orderly k → Unpassed k k.running
runs_on o x h b = runs o h

-- Neither a record nor a queue changes, nor who runs.
pub unmoved : {k j : Kernel} → Orderly k → j.tasks ≡ k.tasks → j.queues ≡ k.queues → j.running ≡ k.running → Fair k j
unmoved o t q r = stand (λ x h. same_record t x) (λ x y hx hy b. rw q b) (rw r (runs_on o))

-- Another task than the running one has moved.
pub still_orderly : {k : Kernel} → Orderly k → (i : ℕ) (a : Bare) → i < task_count → (status_number (task k i).status ≡ EXE → ⊥) → Orderly (move k i a)
unfolding move
still_orderly {k} o i a l other =
    record {
      order = (tie_rule o.order).again i a l;
      is_task = o.is_task;
      exe = rw (kept_task (movable o.order i l) a k.running (λ e. other (subst (λ (x : ℕ). status_number (task k x).status ≡ EXE) e o.exe))) o.exe;
    }

pub dispatches : {k : Kernel} → QueuesKept k → Fair k (dispatch k)
unfolding dispatch
dispatches {k} o = go (queue k ready_queue) refl
  where
    go : (xs : List ℕ) → queue k ready_queue ≡ xs → Fair k (run k xs)
    go [] e = stand (λ x h. refl) (λ x y hx hy b. b) (λ x h b. rw e at b)
    go (x ∷ xs) e =
        let queued = rw e at (queue_standing o) in
        leaves o x (with_status (task k x) Exe) queued.only.0.0 (omega arith) refl refl
        (λ u h b. never_first u x xs queued.once (rw e at b))

-- The running task goes out of the processor, and the first ready task runs.
pub gives_way : {k : Kernel} → Orderly k → (a : Bare) → Fair k (dispatch (move k k.running a))
gives_way {k} o a = moves o.order k.running a o.is_task (runs o) _ (dispatches ((tie_rule o.order).again k.running a o.is_task))

pub schedules : {k : Kernel} → Orderly k → Fair k (schedule k)
unfolding preempt schedule
schedules {k} o = go (queue k ready_queue)
  where
    yields : (b : Bool) → Fair k (cond b (preempt k) k)
    yields true = gives_way o (with_status (task k k.running) Ready)
    yields false = unmoved o refl refl refl

    go : (xs : List ℕ) → Fair k (yield k xs)
    go [] = unmoved o refl refl refl
    go (x ∷ xs) = yields (ltb (task k x).deadline (task k k.running).deadline)
