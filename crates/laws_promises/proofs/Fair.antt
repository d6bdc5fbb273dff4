-- First joined, first taken, over every call. Assumes nothing.
use mathlib.Core.Path.{◌≡◌, refl}
use mathlib.Core.Bool.{true}
use mathlib.Core.List.{List, [], ◌∷◌}
use mathlib.Core.Option.{Option, none, some}
use Prim.Native.Nat.{ℕ, ◌+◌, ◌<◌}
use native.Mathlib.Omega.{arith}
use lib.Dec.{ltb, eqb}
use lib.IntN.{ℤ}
use Rattle.kernel.specs.declared.Class.{Class}
use Rattle.kernel.specs.declared.Class.TheVariants.{Nrt, Hard}
use Rattle.kernel.specs.Sizes.{task_count, semaphore_count}
use Rattle.kernel.specs.Status.{FREE, READY, EXE, SLEEP, status_number, idle_queue, zombie_queue, waiters, stop_number}
use Rattle.kernel.specs.Kernel.{Bare, Kernel, task, queue, semaphore, blank, is, with_clock, next_period}
use Rattle.kernel.specs.Moves.{move, schedule}
use Rattle.kernel.specs.Tick as Tick
use Rattle.kernel.specs.Tick.{free, wake, any_due, free_zombies, wake_idle}
use Rattle.kernel.specs.Tasks as Tasks
use Rattle.kernel.specs.Tasks.{lowest_free, finish, ended}
use Rattle.kernel.specs.Semaphores as Semaphores
use Rattle.kernel.specs.Semaphores.{signal_to}
use Rattle.kernel.specs.Channels as Channels
use Rattle.kernel.specs.Calls.{Verb, tick, create_hard, create_nrt, activate, sleep, cycle, end, kill, new_semaphore, delete, wait, signal, OnChannel, open_channel, begin_write, piece, put, begin_reading, showing, close, screen, Call, verb, question, on_channel, work, channel_effect, effect}
use Rattle.kernel.specs.Refusals.{Handed, first, rows}
use Rattle.kernel.specs.Step.{by_table, step}
use Rattle.kernel.specs.Good.{Good}
use Rattle.kernel.proofs.Allowed.{VerbAllowed, Allowed, allowed}
use Rattle.kernel.proofs.Decided.{either}
use Rattle.kernel.proofs.Lowest.{found}
use Rattle.laws_effects.specs.UnderWay.{Freeing, Ticking}
use Rattle.laws_effects.proofs.Standing.{stands}
use Rattle.laws_effects.proofs.Sweep.{Acts, also, all_swept}
use Rattle.laws_effects.proofs.Due.{first_zombie, first_idle, frees, wakes}
use Rattle.laws_effects.proofs.Tick.{each_tick}
use Rattle.laws_effects.proofs.Tasks.{ended_not_ready}
use Rattle.laws_promises.specs.Fair.{Fair}
use Rattle.laws_promises.proofs.Earliest.{tie_rule}
use Rattle.laws_promises.proofs.Joining.{Onward, moves, beside, leaves, Orderly, good_orderly, ticking_orderly, runs, runs_on, unmoved, still_orderly, dispatches, gives_way, schedules}

-- ---- the tick

-- Whoever goes or wakes was not ready.
module _ (from : Kernel) where
  frees_fair : Acts (λ k. Freeing k × Onward from k) free zombie_queue
  unfolding free
  frees_fair =
      also frees
      (λ k x xs p e due on l f.
      let i = first_zombie p.0 e in
      on l (moves (ticking_orderly p.0).order x blank i.0 (λ h. let z = h.status in omega (arith, i.1)) l (beside refl refl l f)))

  wakes_fair : Acts (λ k. Ticking k × Onward from k) wake idle_queue
  unfolding wake
  wakes_fair =
      also wakes
      (λ k x xs t e due on l f.
      let i = first_idle t e in
      on l (moves (ticking_orderly t).order x (next_period (task k x)) i.0 (λ h. let z = h.status in omega (arith, i.1)) l f))

  wakes_up : {k : Kernel} → Ticking k → Onward from k → Fair from (wake_idle k)
  unfolding wake_idle
  wakes_up {k} t on =
      let w = (all_swept wakes_fair k (queue k idle_queue) (t, on) refl).0 in
      let o = ticking_orderly w.0 in
      either (Fair from) (any_due k (queue k idle_queue)) (λ e. w.1 _ (schedules o)) (λ e. w.1 _ (unmoved o refl refl refl))

module _ {k : Kernel} (g : Good k) where
  o : Orderly k
  o = good_orderly g

  ticks : stop_number k.stop ≡ 0 → Fair k (Tick.tick k)
  unfolding free_zombies
  ticks going =
      let j = with_clock k (k.clock + 1) in
      each_tick g going (Fair k) (λ e. unmoved o refl refl refl) (λ e. unmoved o refl refl refl)
      (λ p. let f = (all_swept (frees_fair k) j (queue j zombie_queue) (p, beside refl refl) refl).0 in wakes_up k f.0.0 f.1)

  creates : (c : Class) → (lowest_free k ≡ task_count → ⊥) → Fair k (Tasks.create c k)
  unfolding move Tasks.create lowest_free
  creates c there_is = leaves o.order (lowest_free k) _ (found task_count (λ x. is FREE (task k x)) there_is).0 (omega arith) refl refl (runs_on o)

  -- A task that neither is ready nor runs becomes ready, and schedule.
  readied : (i : ℕ) (a : Bare) → i < task_count → (status_number (task k i).status ≡ READY → ⊥) → (status_number (task k i).status ≡ EXE → ⊥)
      → Fair k (schedule (move k i a))
  readied i a l not_ready not_exe =
      moves o.order i a l (λ h. not_ready h.status) _ (schedules (still_orderly o i a l not_exe))

  activates : (n : ℕ) → n < task_count → status_number (task k n).status ≡ SLEEP → Fair k (Tasks.activate n k)
  unfolding Tasks.activate
  activates n l e = readied n _ l (omega arith) (omega arith)

  ends : Fair k (Tasks.end k)
  unfolding move Tasks.end finish
  ends =
      let r = k.running in
      let again = (tie_rule o.order).again r (ended (task k r) (task k r).class) o.is_task in
      moves o.order r _ o.is_task (runs o) _ (beside refl refl _ (dispatches (record { tasks = again.tasks; lists = again.lists; queues = again.queues })))

  kills : (n : ℕ) → n < task_count → Fair k (Tasks.kill n k)
  unfolding move Tasks.kill finish
  kills n l =
      either (Fair k) (eqb n k.running) (λ e. ends)
      (λ e. leaves o.order n _ l (ended_not_ready (task k n) (task k n).class) refl refl (runs_on o))

  waits : (s : ℕ) → Fair k (Semaphores.wait s k)
  unfolding Semaphores.wait
  waits s = either (Fair k) (ltb 0 (semaphore k s).count) (λ e. unmoved o refl refl refl) (λ e. gives_way o _)

  signals : (s : ℕ) → s < semaphore_count → Fair k (Semaphores.signal s k)
  unfolding Semaphores.signal
  signals s l = go (queue k (waiters s)) refl
    where
      go : (xs : List ℕ) → queue k (waiters s) ≡ xs → Fair k (signal_to s k xs)
      go [] e = unmoved o refl refl refl
      go (x ∷ xs) e =
          let i = (rw e at (g.queues (waiters s) (omega arith)).only).0 in
          let waits = (stands (task k x).status).in_waiters s l i.1 in
          readied x _ i.0 (omega arith) (omega arith)

  verb_fair : (v : Verb) → stop_number k.stop ≡ 0 → VerbAllowed v k → Fair k (work v k).kernel
  unfolding Tasks.sleep Tasks.cycle Semaphores.new_semaphore Semaphores.delete
  verb_fair tick r a = ticks r
  verb_fair (create_hard p c) r a = creates (Hard p c) a.1
  verb_fair (create_nrt p) r a = creates (Nrt p) a.1
  verb_fair (activate n) r a = activates n a.0 a.1
  verb_fair sleep r a = gives_way o _
  verb_fair cycle r a = gives_way o _
  verb_fair end r a = ends
  verb_fair (kill n) r a = kills n a.1.0
  verb_fair (new_semaphore n) r a = unmoved o refl refl refl
  verb_fair (delete s) r a = unmoved o refl refl refl
  verb_fair (wait s) r a = waits s
  verb_fair (signal s) r a = signals s a.0.0

  channel_fair : (c : OnChannel) (m : List ℕ) → Fair k (channel_effect c k m).kernel
  unfolding Channels.open_channel Channels.begin_write Channels.put Channels.begin_reading Channels.close
  channel_fair (open_channel n b) m = unmoved o refl refl refl
  channel_fair (begin_write c) m = unmoved o refl refl refl
  channel_fair (piece c b bs) m = unmoved o refl refl refl
  channel_fair (put c) m = unmoved o refl refl refl
  channel_fair (begin_reading c) m = unmoved o refl refl refl
  channel_fair (showing c) m = unmoved o refl refl refl
  channel_fair (close c) m = unmoved o refl refl refl
  channel_fair (screen c text) m = unmoved o refl refl refl

  is_fair : (c : Call) (m : List ℕ) → stop_number k.stop ≡ 0 → Allowed c k m → Fair k (effect c k m).kernel
  unfolding effect
  is_fair (verb v) m r a = verb_fair v r a
  is_fair (question q) m r a = unmoved o refl refl refl
  is_fair (on_channel c) m r a = channel_fair c m

-- **call_fair**: a call to which no row applies is fair.
pub call_fair : (c : Call) (k : Kernel) (m : List ℕ) → Good k → first (rows c (record { sound = true; kernel = k; memory = m })) ≡ none → Fair k (effect c k m).kernel
call_fair c k m g e = let a = allowed (record { sound = true; kernel = k; memory = m }) c e in is_fair g c m a.going a.allowed

-- **step_fair**: and so is every call, refused or not.
pub step_fair : (c : Call) (k : Kernel) (m : List ℕ) → Good k → Fair k (step c (record { sound = true; kernel = k; memory = m })).kernel
unfolding step
step_fair c k m g = go (first (rows c h)) refl
  where
    h : Handed
    h = record { sound = true; kernel = k; memory = m }

    go : (r : Option ℤ) → first (rows c h) ≡ r → Fair k (by_table r (effect c k m) h).kernel
    go (some n) e = unmoved (o g) refl refl refl
    go none e = call_fair c k m g e
