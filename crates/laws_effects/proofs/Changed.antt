-- The record of one task changes, and the kernel stays steady. Assumes nothing.
use mathlib.Core.Path.{◌≡◌, refl, sym, ap, ◌∙◌}
use mathlib.Core.Bool.{true, false≢true}
use mathlib.Core.List.{List, [], ◌∷◌}
use mathlib.Core.Logic.Iff
use mathlib.Core.Logic.{◌↔◌, inl}
use Prim.Native.Nat.{ℕ, zero, suc, ◌+◌, ◌≤◌, ◌<◌}
use native.Mathlib.Omega.{arith}
use native.Mathlib.Decide.{ℕ_discrete}
use lib.ListN.{length, get_or, set, length-set}
use borrow.Author.Tests.{ne_eqb}
use Rattle.laws_chain.specs.Lists.{remove}
use Rattle.kernel.specs.declared.Class.{Class}
use Rattle.kernel.specs.declared.Class.TheVariants.{Nrt, Hard}
use Rattle.kernel.specs.declared.Status.{Status}
use Rattle.kernel.specs.Sizes.{task_count, semaphore_count, channel_count, main_priority, whole}
use Rattle.kernel.specs.Status.{FREE, READY, EXE, ZOMBIE, status_number, queue_of, waiters}
use Rattle.kernel.specs.Kernel.{Bare, Kernel, task, queue, semaphore, session, blank, share_of, with_running, with_total}
use Rattle.kernel.specs.Moves.{move}
use Rattle.kernel.specs.Good.{GoodTask, GoodSemaphore, GoodChannel, Fits, Timely, Opens, counted_share, shares}
use Rattle.kernel.proofs.Moves.{Movable, move_sized, moved_task, kept_task, kept_queue, moved_queues}
use Rattle.laws_effects.specs.UnderWay.{Ahead, Earliest, Steady}
use Rattle.laws_effects.proofs.Sessions.{never_open, busy, fewer}
use Rattle.laws_effects.proofs.Kept.{names_kept, task_kept}
use Rattle.laws_effects.proofs.Asks.{Asks, main_status, suited, names, times, sessionless, exhausted}

-- Task r was the EXE one, and e is, once the status of task i has the number n.
pub record Runner (r i n e : ℕ) : Type 0 where
  pub exe : (n ≡ EXE) ↔ (i ≡ e)
  pub others : (x : ℕ) → x < task_count → (x ≡ i → ⊥) → (x ≡ r) ↔ (x ≡ e)

-- What a change of task i asks: its record becomes a, task e is the EXE one from then on, and the share total is n.
pub record Change (k : Kernel) (i : ℕ) (a : Bare) (e n : ℕ) : Type 0 where
  pub is_task : i < task_count
  pub runner : Runner k.running i (status_number a.status) e
  pub main_class : i ≡ 0 → a.class ≡ Nrt main_priority
  pub fits : (i ≡ 0 → ⊥) → Fits a.class
  pub timely : Timely k.clock a.class (status_number a.status) a.deadline
  pub asks : Asks k i a.class a.deadline a.status
  pub share : n + counted_share (task k i) ≡ k.total + counted_share a
  pub share_fits : n ≤ whole

-- The sum of the shares, once one record is another.
shares_set : (ts : List Bare) (i : ℕ) (a : Bare) → i < length ts → shares (set ts i a) + counted_share (get_or ts i blank) ≡ shares ts + counted_share a
shares_set [] i a l = absurd (omega arith)
shares_set (t ∷ ts) zero a l = omega arith
shares_set (t ∷ ts) (suc i) a l = omega (arith, shares_set ts i a (omega arith))

pub movable : {k : Kernel} → Steady k → (i : ℕ) → i < task_count → Movable k i
movable s i l = record { tasks = s.sized.tasks; lists = s.sized.queues; queues = s.queues; is_task = l }

-- What holds of task i with its new record, and of each other one with its own, holds of all once i has moved.
pub each : {k : Kernel} {i : ℕ} {a : Bare} (P : ℕ → Bare → Type 0) → Movable k i → P i a → ((x : ℕ) → (x ≡ i → ⊥) → P x (task k x)) → (x : ℕ) → P x (task (move k i a) x)
each {k} {i} {a} P m here there x = go (ℕ_discrete x i)
  where
    go : Dec (x ≡ i) → P x (task (move k i a) x)
    go (yes z) = rw (z, moved_task m a) here
    go (no ne) = rw (kept_task m a x ne) (there x ne)

-- Where a task that is not EXE changes and does not become READY, the running one stays the earliest.
pub still_earliest : {k : Kernel} → Steady k → Earliest k → (i : ℕ) (a : Bare) → i < task_count
    → (status_number (task k i).status ≡ EXE → ⊥) → (status_number a.status ≡ READY → ⊥) → Earliest (move k i a)
unfolding move
still_earliest {k} s first i a l not_exe not_ready =
    let m = movable s i l in
    rw (kept_task m a k.running (λ z. not_exe ((s.tasks i l).exe.1 (sym z))))
    (each (λ (x : ℕ) (r : Bare). x < task_count → status_number r.status ≡ READY → (task k k.running).deadline ≤ r.deadline) m
    (λ lx z. absurd (not_ready z)) (λ x ne. first x))

-- **changed**: the kernel stays steady.
module _ {k : Kernel} {i : ℕ} {a : Bare} {e n : ℕ} (s : Steady k) (h : Change k i a e n) where
  abbrev j : Kernel
  j = with_total (with_running (move k i a) e) n

  m : Movable k i
  m = movable s i h.is_task

  own : GoodTask j i a
  unfolding move
  own =
      record {
        exe = h.runner.exe;
        main_or_sized = record { main_class = h.main_class; main_status = main_status k i a.class a.deadline a.status h.asks; fits = h.fits };
        timely = h.timely;
        suited = suited k i a.class a.deadline a.status h.asks;
        waits = names_kept j k a.status (λ q z u. u) (names k i a.class a.deadline a.status h.asks);
        idle_ahead = (times k i a.class a.deadline a.status h.asks).0;
      }

  other : (x : ℕ) → (x ≡ i → ⊥) → x < task_count → GoodTask j x (task k x)
  unfolding move
  other x ne l = task_kept refl refl (h.runner.others x l ne) (λ q z u. u) (s.tasks x l)

  semaphore_good : (q : ℕ) → q < semaphore_count → GoodSemaphore j q
  unfolding move
  semaphore_good q l =
      let g = s.semaphores q l in
      record {
        fits = g.fits;
        counting = λ z. still (g.counting z) (λ w. omega (arith, (finds w).1));
        unused_count = g.unused_count;
        unused_waiters = λ z. still (g.unused_waiters z) (λ w. false≢true (sym z ∙ (finds w).0));
      }
    where
      finds : queue_of a.status ≡ waiters q → ((semaphore k q).used ≡ true) × ((semaphore k q).count ≡ 0)
      finds w = exhausted k i a.class a.deadline a.status h.asks q l w

      still : queue k (waiters q) ≡ [] → (queue_of a.status ≡ waiters q → ⊥) → queue j (waiters q) ≡ []
      still none ne = kept_queue m a (waiters q) (omega arith) (λ z. ne (sym z)) ∙ ap (remove i) none

  channel_good : (c : ℕ) → c < channel_count → GoodChannel j c
  unfolding move
  channel_good c l = fewer (record { channel_is = refl; session_is = λ t lt. inl refl; in_use = λ t b lt o. in_use b t lt o }) (s.channels c l)
    where
      in_use : (b x : ℕ) → x < task_count → Opens (session k c x) b → (status_number (task j x).status ≡ FREE → ⊥) × (status_number (task j x).status ≡ ZOMBIE → ⊥)
      in_use b =
          let none = sessionless k i a.class a.deadline a.status h.asks in
          each (λ (x : ℕ) (r : Bare). x < task_count → Opens (session k c x) b → (status_number r.status ≡ FREE → ⊥) × (status_number r.status ≡ ZOMBIE → ⊥)) m
          (λ lx o. (λ z. never_open o (none.0 z c l), λ z. never_open o (none.1 z c l)))
          (λ x ne. busy (s.channels c l) x b)

  pub changed : Steady j
  unfolding move
  changed =
      record {
        sized = record {
          tasks = length-set k.tasks i a ∙ s.sized.tasks;
          queues = move_sized k i a ∙ s.sized.queues;
          semaphores = s.sized.semaphores;
          channels = s.sized.channels;
          sessions = s.sized.sessions;
        };
        tasks = each (λ (x : ℕ) (r : Bare). x < task_count → GoodTask j x r) m (λ l. own) other;
        queues = moved_queues m a;
        shared = record { total_is = omega (arith, s.shared.total_is, h.share, shares_set k.tasks i a (omega (arith, s.sized.tasks, h.is_task))); total_fits = h.share_fits };
        semaphores = semaphore_good;
        channels = channel_good;
        clocked = record { clock = s.clocked.clock; expired = s.clocked.expired };
        runs =
            let t = times k i a.class a.deadline a.status h.asks in
            each (λ (x : ℕ) (r : Bare). x < task_count → Ahead k.clock r) m (λ l. (t.1, t.2)) (λ x ne. s.runs x);
      }

-- ---- who is EXE from then on

-- Task i was not EXE, and does not become so.
pub apart : {k : Kernel} {n : ℕ} → Steady k → (i : ℕ) → i < task_count → (status_number (task k i).status ≡ EXE → ⊥) → (n ≡ EXE → ⊥) → Runner k.running i n k.running
apart s i l was ne = record { exe = (λ z. absurd (ne z), λ z. absurd (was ((s.tasks i l).exe.1 z))); others = λ x lx z. Iff.rfl }

-- The running task leaves the processor.
pub leaves : {r n : ℕ} → r < task_count → (n ≡ EXE → ⊥) → Runner r r n task_count
leaves l ne = record { exe = (λ z. absurd (ne z), λ z. absurd (omega arith)); others = λ x lx z. (λ w. absurd (z w), λ w. absurd (omega arith)) }

-- Task i gets it, where none had it.
pub comes : {i : ℕ} → Runner task_count i EXE i
comes = record { exe = (λ z. refl, λ z. refl); others = λ x lx z. (λ w. absurd (omega arith), λ w. absurd (z w)) }

-- ---- a task that stays in use

-- One status for another, where neither is FREE.
timely_kept : {m n : ℕ} (clock d : ℕ) (c : Class) → (m ≡ FREE → ⊥) → (n ≡ FREE → ⊥) → Timely clock c m d → Timely clock c n d
timely_kept clock d (Hard p c) um un t = t
timely_kept clock d (Nrt p) um un t = (λ z. absurd (un z), λ z. t.1 um)

pub counted_in_use : (a : Bare) → (status_number a.status ≡ FREE → ⊥) → counted_share a ≡ share_of a.class
counted_in_use a u = rw (ne_eqb (status_number a.status) FREE u)

module _ {k : Kernel} (s : Steady k) (i : ℕ) (l : i < task_count) (used : status_number (task k i).status ≡ FREE → ⊥) (st : Status) (uses : status_number st ≡ FREE → ⊥) where
  abbrev a : ℕ → Bare
  a d = record { class = (task k i).class; status = st; deadline = d }

  -- It gets another status and another deadline.
  pub anew : (d : ℕ) {e : ℕ} → Runner k.running i (status_number st) e → Timely k.clock (task k i).class (status_number st) d → Asks k i (task k i).class d st
      → Steady (with_running (move k i (a d)) e)
  unfolding move
  anew d {e} r t h =
      let g = s.tasks i l in
      changed s
      (record {
        is_task = l;
        runner = r;
        main_class = g.main_or_sized.main_class;
        fits = g.main_or_sized.fits;
        timely = t;
        asks = h;
        share = omega (arith, counted_in_use (task k i) used, counted_in_use (a d) uses);
        share_fits = s.shared.total_fits;
      })

  -- It keeps its deadline.
  pub restated : {e : ℕ} → Runner k.running i (status_number st) e → Asks k i (task k i).class (task k i).deadline st → Steady (with_running (move k i (a (task k i).deadline)) e)
  restated r h = anew (task k i).deadline r (timely_kept k.clock (task k i).deadline (task k i).class used uses (s.tasks i l).timely) h
