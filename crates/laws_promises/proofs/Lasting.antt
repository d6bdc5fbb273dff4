-- What can be done to one task's record, and so what lasts through every call. Assumes nothing.
use mathlib.Core.Path.{◌≡◌, refl, ap}
use mathlib.Core.Bool.{true}
use mathlib.Core.List.{List, [], ◌∷◌}
use Prim.Native.Nat.{ℕ, ◌+◌, ◌≤◌, ◌<◌}
use native.Mathlib.Omega.{arith}
use lib.Dec.{ltb, eqb}
use borrow.Author.Tests.{ltb-false, eqb-true}
use Rattle.kernel.specs.declared.Class.{Class}
use Rattle.kernel.specs.declared.Class.TheVariants.{Nrt, Hard}
use Rattle.kernel.specs.declared.Status.{Status}
use Rattle.kernel.specs.declared.Status.TheVariants.{Sleep, Exe, Ready, Idle, Wait}
use Rattle.kernel.specs.Sizes.{task_count, semaphore_count}
use Rattle.kernel.specs.Status.{FREE, EXE, SLEEP, ZOMBIE, status_number, ready_queue, idle_queue, zombie_queue, waiters, stop_number}
use Rattle.kernel.specs.Kernel.{Bare, Kernel, task, queue, semaphore, blank, hard, is, with_status, with_deadline, with_clock, next_period}
use Rattle.kernel.specs.Moves.{move, run, dispatch, preempt, yield, schedule}
use Rattle.kernel.specs.Tick as Tick
use Rattle.kernel.specs.Tick.{free, wake, any_due, free_zombies, wake_idle}
use Rattle.kernel.specs.Tasks as Tasks
use Rattle.kernel.specs.Tasks.{lowest_free, first_deadline, release, finish, ended}
use Rattle.kernel.specs.Semaphores as Semaphores
use Rattle.kernel.specs.Semaphores.{signal_to}
use Rattle.kernel.specs.Channels as Channels
use Rattle.kernel.specs.Calls.{Verb, tick, create_hard, create_nrt, activate, sleep, cycle, end, kill, new_semaphore, delete, wait, signal, OnChannel, open_channel, begin_write, piece, put, begin_reading, showing, close, screen, Call, verb, question, on_channel, work, channel_effect, effect}
use Rattle.kernel.specs.Good.{Good}
use Rattle.kernel.proofs.Allowed.{VerbAllowed, Allowed}
use Rattle.kernel.proofs.Decided.{either}
use Rattle.kernel.proofs.Lowest.{found}
use Rattle.laws_effects.specs.UnderWay.{Freeing, Ticking}
use Rattle.laws_effects.proofs.Standing.{stands}
use Rattle.laws_effects.proofs.Changed.{each}
use Rattle.laws_effects.proofs.Sweep.{Acts, also, all_swept}
use Rattle.laws_effects.proofs.Tick.{each_tick}
use Rattle.laws_effects.proofs.Due.{first_zombie, first_idle, frees, wakes}
use Rattle.laws_promises.specs.Earliest.{QueuesKept}
use Rattle.laws_promises.proofs.Earliest.{movable, queue_standing, tie_rule}
use Rattle.laws_promises.proofs.Joining.{Orderly, good_orderly, ticking_orderly, still_orderly}

-- A task that is READY, EXE, IDLE or WAIT.
pub record Active (a : Bare) : Type 0 where
  pub used : status_number a.status ≡ FREE → ⊥
  pub awake : status_number a.status ≡ SLEEP → ⊥
  pub alive : status_number a.status ≡ ZOMBIE → ⊥

-- Activated at the clock t.
abbrev pub activated : ℕ → Bare → Bare
activated t a = with_status (with_deadline a (release a.class t a.deadline)) Ready

-- P, of the clock and of a task's record, lasts through all that can be done to the record; through an activation where A holds.
pub record Lasting (A : Type 0) (P : ℕ → Bare → Type 0) : Type 0 where
  pub later : {t : ℕ} {a : Bare} → P t a → P (t + 1) a
  pub restated : {t : ℕ} {a : Bare} → Active a → (st : Status) → (status_number st ≡ FREE → ⊥) → P t a → P t (with_status a st)
  pub renewed : {t : ℕ} {a : Bare} → Active a → a.deadline ≤ t → P t a → P t (next_period a)
  pub activates : {t : ℕ} {a : Bare} → A → status_number a.status ≡ SLEEP → (hard a.class ≡ true → a.deadline ≤ t) → P t a → P t (activated t a)
  pub created : {t : ℕ} {a : Bare} → status_number a.status ≡ FREE → (c : Class) → P t a → P t (record { class = c; status = Sleep; deadline = first_deadline c t })
  pub ends : {t : ℕ} {a : Bare} → (status_number a.status ≡ FREE → ⊥) → P t a → P t (ended a a.class)
  pub freed : {t : ℕ} {a : Bare} → status_number a.status ≡ ZOMBIE → a.deadline ≤ t → P t a → P t blank

module _ {A : Type 0} {P : ℕ → Bare → Type 0} (lasts : Lasting A P) (n : ℕ) where
  -- P holds of task n.
  abbrev Of : Kernel → Type 0
  Of k = P k.clock (task k n)

  -- ---- moves

  moves : {k : Kernel} → QueuesKept k → (i : ℕ) (a : Bare) → i < task_count → (i ≡ n → P k.clock (task k i) → P k.clock a) → Of k → Of (move k i a)
  unfolding move
  moves {k} o i a l f = each (λ (x : ℕ) (b : Bare). x ≡ n → P k.clock (task k x) → P k.clock b) (movable o i l) f (λ x ne e h. h) n refl

  dispatches : {k : Kernel} → QueuesKept k → Of k → Of (dispatch k)
  unfolding dispatch
  dispatches {k} o h = go (queue k ready_queue) refl
    where
      go : (xs : List ℕ) → queue k ready_queue ≡ xs → Of (run k xs)
      go [] e = h
      go (x ∷ xs) e =
          let first = (rw e at (queue_standing o)).only.0 in
          let ready = (stands (task k x).status).in_ready.1 first.1 in
          moves o x _ first.0 (λ z. lasts.restated (omega arith) Exe (omega arith)) h

  -- The running task goes out of the processor, and the first ready task runs.
  gives_way : {k : Kernel} → Orderly k → (a : Bare) → (Active (task k k.running) → P k.clock (task k k.running) → P k.clock a) → Of k
      → Of (dispatch (move k k.running a))
  gives_way {k} r a f h =
      let exe = r.exe in
      dispatches ((tie_rule r.order).again k.running a r.is_task) (moves r.order k.running a r.is_task (λ z. f (omega arith)) h)

  pub schedules : {k : Kernel} → Orderly k → Of k → Of (schedule k)
  unfolding preempt schedule
  schedules {k} r h = go (queue k ready_queue)
    where
      go : (xs : List ℕ) → Of (yield k xs)
      go [] = h
      go (x ∷ xs) = either Of (ltb (task k x).deadline (task k k.running).deadline) (λ e. gives_way r _ (λ a. lasts.restated a Ready (omega arith)) h) (λ e. h)

  -- ---- the tick

  frees_lasting : Acts (λ k. Freeing k × Of k) free zombie_queue
  unfolding free
  frees_lasting =
      also frees
      (λ k x xs p e due.
      let i = first_zombie p.0 e in
      moves (ticking_orderly p.0).order x blank i.0 (λ z. lasts.freed i.1 due))

  wakes_lasting : Acts (λ k. Ticking k × Of k) wake idle_queue
  unfolding wake
  wakes_lasting =
      also wakes
      (λ k x xs t e due.
      let i = first_idle t e in
      let idle = i.1 in
      moves (ticking_orderly t).order x (next_period (task k x)) i.0 (λ z. lasts.renewed (omega arith) due))

  wakes_up : {k : Kernel} → Ticking k → Of k → Of (wake_idle k)
  unfolding wake_idle
  wakes_up {k} t h =
      let w = (all_swept wakes_lasting k (queue k idle_queue) (t, h) refl).0 in
      either Of (any_due k (queue k idle_queue)) (λ e. schedules (ticking_orderly w.0) w.1) (λ e. w.1)

  module _ {k : Kernel} (g : Good k) where
    r : Orderly k
    r = good_orderly g

    ticks : stop_number k.stop ≡ 0 → Of k → Of (Tick.tick k)
    unfolding free_zombies
    ticks going h =
        let j = with_clock k (k.clock + 1) in
        each_tick g going Of (λ e. lasts.later h) (λ e. lasts.later h)
        (λ p. let f = (all_swept frees_lasting j (queue j zombie_queue) (p, lasts.later h) refl).0 in wakes_up f.0.0 f.1)

    -- ---- the other calls

    creates : (c : Class) → (lowest_free k ≡ task_count → ⊥) → Of k → Of (Tasks.create c k)
    unfolding move Tasks.create lowest_free
    creates c there_is =
        let i = found task_count (λ x. is FREE (task k x)) there_is in
        moves r.order (lowest_free k) _ i.0 (λ z. lasts.created (eqb-true (status_number (task k (lowest_free k)).status) FREE i.1) c)

    -- A task that does not run becomes ready, and schedule.
    readied : (i : ℕ) (a : Bare) → i < task_count → (status_number (task k i).status ≡ EXE → ⊥) → (i ≡ n → P k.clock (task k i) → P k.clock a) → Of k
        → Of (schedule (move k i a))
    readied i a l other f h = schedules (still_orderly r i a l other) (moves r.order i a l f h)

    finishes : (i : ℕ) → i < task_count → (status_number (task k i).status ≡ FREE → ⊥) → Of k → Of (finish i k)
    unfolding move finish
    finishes i l used = moves r.order i _ l (λ z. lasts.ends used)

    stops : Of k → Of (Tasks.end k)
    unfolding move Tasks.end finish
    stops h =
        let exe = r.exe in
        let again = (tie_rule r.order).again k.running (ended (task k k.running) (task k k.running).class) r.is_task in
        dispatches (record { tasks = again.tasks; lists = again.lists; queues = again.queues }) (finishes k.running r.is_task (omega arith) h)

    signals : (s : ℕ) → s < semaphore_count → Of k → Of (Semaphores.signal s k)
    unfolding Semaphores.signal
    signals s l h = go (queue k (waiters s)) refl
      where
        go : (xs : List ℕ) → queue k (waiters s) ≡ xs → Of (signal_to s k xs)
        go [] e = h
        go (x ∷ xs) e =
            let i = (rw e at (g.queues (waiters s) (omega arith)).only).0 in
            let waits = (stands (task k x).status).in_waiters s l i.1 in
            readied x _ i.0 (omega arith) (λ z. lasts.restated (omega arith) Ready (omega arith)) h

    verb_lasts : (v : Verb) → stop_number k.stop ≡ 0 → VerbAllowed v k → (v ≡ activate n → A) → Of k → Of (work v k).kernel
    unfolding Tasks.activate Tasks.sleep Tasks.cycle Tasks.kill Semaphores.new_semaphore Semaphores.delete Semaphores.wait
    verb_lasts tick o a may h = ticks o h
    verb_lasts (create_hard p c) o a may h = creates (Hard p c) a.1 h
    verb_lasts (create_nrt p) o a may h = creates (Nrt p) a.1 h
    verb_lasts (activate i) o a may h = let asleep = a.1 in readied i _ a.0 (omega arith) (λ e. lasts.activates (may (ap activate e)) asleep a.2) h
    verb_lasts sleep o a may h = gives_way r _ (λ b. lasts.restated b Sleep (omega arith)) h
    verb_lasts cycle o a may h =
        gives_way r _
        (λ b p. either (P k.clock) (ltb k.clock (task k k.running).deadline) (λ e. lasts.restated b Idle (omega arith) p) (λ e. lasts.renewed b (ltb-false k.clock (task k k.running).deadline e) p)) h
    verb_lasts end o a may h = stops h
    verb_lasts (kill i) o a may h = either Of (eqb i k.running) (λ e. stops h) (λ e. finishes i a.1.0 a.1.1 h)
    verb_lasts (new_semaphore s) o a may h = h
    verb_lasts (delete s) o a may h = h
    verb_lasts (wait s) o a may h =
        either Of (ltb 0 (semaphore k s).count) (λ e. h) (λ e. gives_way r _ (λ b. lasts.restated b (Wait (record { 0 = s })) (omega arith)) h)
    verb_lasts (signal s) o a may h = signals s a.0.0 h

    channel_lasts : (c : OnChannel) (m : List ℕ) → Of k → Of (channel_effect c k m).kernel
    unfolding Channels.open_channel Channels.begin_write Channels.put Channels.begin_reading Channels.close
    channel_lasts (open_channel s b) m h = h
    channel_lasts (begin_write c) m h = h
    channel_lasts (piece c b bs) m h = h
    channel_lasts (put c) m h = h
    channel_lasts (begin_reading c) m h = h
    channel_lasts (showing c) m h = h
    channel_lasts (close c) m h = h
    channel_lasts (screen c text) m h = h

    -- **call_lasts**: what lasts through all that can be done to task n's record lasts through every call.
    pub call_lasts : (c : Call) (m : List ℕ) → stop_number k.stop ≡ 0 → Allowed c k m → (c ≡ verb (activate n) → A) → Of k → Of (effect c k m).kernel
    unfolding effect
    call_lasts (verb v) m o a may h = verb_lasts v o a (λ e. may (ap verb e)) h
    call_lasts (question q) m o a may h = h
    call_lasts (on_channel c) m o a may h = channel_lasts c m h
