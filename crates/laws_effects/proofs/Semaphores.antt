-- New semaphore, delete, wait and signal, where nothing refuses them, keep the kernel good. Assumes nothing.
use mathlib.Core.Path.{◌≡◌, refl, ap, ◌∙◌}
use mathlib.Core.Bool.{Bool, true, false, true≢false, cond, not}
use mathlib.Core.List.{List, [], ◌∷◌}
use mathlib.Core.Logic.Iff
use mathlib.Core.Logic.{inl}
use Prim.Native.Nat.{ℕ, ◌+◌, ◌-◌, ◌≤◌, ◌<◌}
use native.Mathlib.Omega.{arith}
use native.Mathlib.Decide.{ℕ_discrete}
use lib.ListN.{length-set}
use lib.Seq.{get_or-set_same, get_or-set_other}
use lib.Dec.{ltb}
use borrow.Author.Tests.{ltb-true, ltb-false, not-true, not-false}
use Rattle.kernel.specs.declared.Status.TheVariants.{Ready, Wait}
use Rattle.kernel.specs.declared.Semaphore.{Semaphore}
use Rattle.kernel.specs.declared.SemaphoreNo.{SemaphoreNo}
use Rattle.kernel.specs.Sizes.{task_count, semaphore_count, highest_count}
use Rattle.kernel.specs.Status.{queue_of, waiters, stop_number}
use Rattle.kernel.specs.Kernel.{Kernel, task, queue, semaphore, unused_semaphore, hard, with_status, with_semaphore}
use Rattle.kernel.specs.Moves.{move, dispatch}
use Rattle.kernel.specs.Semaphores.{counting, lowest_semaphore, new_semaphore, delete, wait, signal_to, signal}
use Rattle.kernel.specs.Good.{Good, GoodSemaphore, Counted, standing}
use Rattle.kernel.proofs.Decided.{unless}
use Rattle.kernel.proofs.Deadlines.{nrt_late}
use Rattle.kernel.proofs.Lowest.{found}
use Rattle.laws_effects.specs.UnderWay.{Steady}
use Rattle.laws_effects.proofs.Standing.{stands, waits_at}
use Rattle.laws_effects.proofs.Steady.{earliest, steady, good}
use Rattle.laws_effects.proofs.Kept.{task_kept}
use Rattle.laws_effects.proofs.Sessions.{busy, fewer}
use Rattle.laws_effects.proofs.Changed.{apart, restated}
use Rattle.laws_effects.proofs.Processor.{gives_way, scheduled}

-- Semaphore q becomes a, which counts its waiters right.
module _ {k : Kernel} (s : Steady k) (q : ℕ) (a : Semaphore) (l : q < semaphore_count) (c : Counted a (queue k (waiters q) ≡ [])) where
  abbrev j : Kernel
  j = with_semaphore k q a

  here : semaphore j q ≡ a
  here = get_or-set_same k.semaphores q a unused_semaphore (omega (arith, s.sized.semaphores))

  there : (p : ℕ) → (p ≡ q → ⊥) → semaphore j p ≡ semaphore k p
  there p ne = get_or-set_other k.semaphores q p a unused_semaphore ne

  counted : (p : ℕ) → p < semaphore_count → Dec (p ≡ q) → GoodSemaphore j p
  counted p lp (yes e) = rw (e, here) c
  counted p lp (no ne) = rw (there p ne) (s.semaphores p lp)

  -- Who waits at it is in its queue, so it is used.
  still_used : (x : ℕ) → x < task_count → (w : SemaphoreNo) → (task k x).status ≡ Wait w → (semaphore k w.0).used ≡ true → Dec (w.0 ≡ q)
      → (semaphore j w.0).used ≡ true
  still_used x lx w z u (yes e) = rw (e, here) (unless (λ none. rw (c.unused_waiters none) at ((s.queues (waiters q) (omega arith)).all x lx stood)))
    where
      stood : standing k x ≡ waiters q
      stood = ap queue_of z ∙ waits_at w.0 (omega arith) ∙ ap waiters e
  still_used x lx w z u (no ne) = rw (there w.0 ne) u

  recounted : Steady j
  recounted =
      record {
        sized = record {
          tasks = s.sized.tasks;
          queues = s.sized.queues;
          semaphores = length-set k.semaphores q a ∙ s.sized.semaphores;
          channels = s.sized.channels;
          sessions = s.sized.sessions;
        };
        tasks = λ x lx. task_kept refl refl Iff.rfl (λ w z u. still_used x lx w z u (ℕ_discrete w.0 q)) (s.tasks x lx);
        queues = s.queues;
        shared = record { total_is = s.shared.total_is; total_fits = s.shared.total_fits };
        semaphores = λ p lp. counted p lp (ℕ_discrete p q);
        channels = λ c lc. fewer (record { channel_is = refl; session_is = λ t lt. inl refl; in_use = busy (s.channels c lc) }) (s.channels c lc);
        clocked = record { clock = s.clocked.clock; expired = s.clocked.expired };
        runs = s.runs;
      }

-- A used semaphore with a count that fits, which has no waiters if the count is above 0.
counts : {none : Type 0} (n : ℕ) → n ≤ highest_count → (0 < n → none) → Counted (counting n) none
counts n l h = record { fits = l; counting = h; unused_count = λ z. absurd (true≢false z); unused_waiters = λ z. absurd (true≢false z) }

module _ {k : Kernel} (g : Good k) (going : stop_number k.stop ≡ 0) where
  recount : (q : ℕ) (a : Semaphore) → q < semaphore_count → Counted a (queue k (waiters q) ≡ []) → Good (with_semaphore k q a)
  recount q a l c = good (recounted (steady g going) q a l c) g.runs.running (earliest g)

  pub new_semaphore_good : (n : ℕ) → n ≤ highest_count → (lowest_semaphore k ≡ semaphore_count → ⊥) → Good (new_semaphore n k)
  unfolding new_semaphore lowest_semaphore
  new_semaphore_good n l some =
      let q = lowest_semaphore k in
      let r = found semaphore_count (λ p. not (semaphore k p).used) some in
      recount q (counting n) r.0 (counts n l (λ z. (g.semaphores q r.0).unused_waiters (not-true (semaphore k q).used r.1)))

  pub delete_good : (q : ℕ) → q < semaphore_count → queue k (waiters q) ≡ [] → Good (delete q k)
  unfolding delete
  delete_good q l none = recount q unused_semaphore l (record { fits = omega arith; counting = λ z. none; unused_count = λ z. refl; unused_waiters = λ z. none })

  pub wait_good : (q : ℕ) → (k.running ≡ 0 → ⊥) → hard (task k k.running).class ≡ false → q < semaphore_count → (semaphore k q).used ≡ true → Good (wait q k)
  unfolding wait
  wait_good q ne nrt l used = go (ltb 0 (semaphore k q).count) refl
    where
      go : (b : Bool) → ltb 0 (semaphore k q).count ≡ b
          → Good (cond b (with_semaphore k q (counting ((semaphore k q).count - 1))) (dispatch (move k k.running (with_status (task k k.running) (Wait (record { 0 = q }))))))
      go true z =
          let old = g.semaphores q l in
          recount q (counting ((semaphore k q).count - 1)) l (counts ((semaphore k q).count - 1) (omega (arith, old.fits)) (λ w. old.counting (ltb-true 0 (semaphore k q).count z)))
      go false z = gives_way (steady g going) g.runs.running (Wait (record { 0 = q })) (omega arith) (omega arith) (ne, nrt, l, used, omega (arith, ltb-false 0 (semaphore k q).count z))

  pub signal_good : (q : ℕ) → q < semaphore_count → ((semaphore k q).count ≡ highest_count → ⊥) → Good (signal q k)
  unfolding move signal
  signal_good q l ne = go (queue k (waiters q)) refl
    where
      go : (xs : List ℕ) → queue k (waiters q) ≡ xs → Good (signal_to q k xs)
      go [] e = recount q (counting ((semaphore k q).count + 1)) l (counts ((semaphore k q).count + 1) (omega (arith, (g.semaphores q l).fits)) (λ z. e))
      go (x ∷ xs) e =
          let s = steady g going in
          let o = rw e at (s.queues (waiters q) (omega arith)).only in
          let lx : x < task_count = o.0.0 in
          let waits = (stands (task k x).status).in_waiters q l o.0.1 in
          let a = s.tasks x lx in
          let nrt = not-true (hard (task k x).class) (unless (λ z. a.suited.hard_never_waits (not-false (hard (task k x).class) z) waits)) in
          let late = nrt_late k.clock (task k x).class _ (task k x).deadline nrt (omega arith) a.timely in
          scheduled (restated s x lx (omega arith) Ready (omega arith) (apart s x lx (omega arith) (omega arith)) (omega (arith, s.clocked.clock))) g.runs.running
