-- What dispatch, schedule and the tick's sweeps leave: all that hangs neither on tasks and queues, nor on who runs, nor on the share total. Assumes nothing.
use mathlib.Core.Path.{◌≡◌, refl, ◌∙◌}
use mathlib.Core.Bool.{cond}
use mathlib.Core.List.{List, [], ◌∷◌}
use Prim.Native.Nat.{ℕ}
use lib.Dec.{ltb}
use Rattle.kernel.specs.Status.{ready_queue, idle_queue, zombie_queue}
use Rattle.kernel.specs.Kernel.{Bare, Kernel, task, queue, with_tasks, with_running, with_total}
use Rattle.kernel.specs.Moves.{move, run, dispatch, preempt, yield, schedule}
use Rattle.kernel.specs.Tick.{due, sweep, free, wake, any_due, free_zombies, wake_idle}
use Rattle.kernel.proofs.Decided.{either}

-- f is such a thing.
pub record Untouched {A : Type 0} (f : Kernel → A) : Type 0 where
  pub by_tasks : (k : Kernel) (ts : List Bare) (qs : List (List ℕ)) → f (with_tasks k ts qs) ≡ f k
  pub by_running : (k : Kernel) (x : ℕ) → f (with_running k x) ≡ f k
  pub by_total : (k : Kernel) (n : ℕ) → f (with_total k n) ≡ f k

module _ {A : Type 0} {f : Kernel → A} (u : Untouched f) where
  -- It is in j as in k.
  abbrev Same : Kernel → Kernel → Type 0
  Same k j = f j ≡ f k

  pub moves : (k : Kernel) (i : ℕ) (a : Bare) → Same k (move k i a)
  unfolding move
  moves k i a = u.by_tasks k _ _

  pub dispatches : (k : Kernel) → Same k (dispatch k)
  unfolding dispatch
  dispatches k = go (queue k ready_queue)
    where
      go : (xs : List ℕ) → Same k (run k xs)
      go [] = refl
      go (x ∷ xs) = u.by_running _ x ∙ moves k x _

  pub schedules : (k : Kernel) → Same k (schedule k)
  unfolding schedule preempt
  schedules k = go (queue k ready_queue)
    where
      go : (xs : List ℕ) → Same k (yield k xs)
      go [] = refl
      go (x ∷ xs) =
          either (Same k) (ltb (task k x).deadline (task k k.running).deadline) (λ e. dispatches _ ∙ moves k k.running _) (λ e. refl)

  sweeps : (g : Kernel → ℕ → Kernel) → ((k : Kernel) (x : ℕ) → Same k (g k x)) → (k : Kernel) (xs : List ℕ) → Same k (sweep g k xs)
  sweeps g each k [] = refl
  sweeps g each k (x ∷ xs) = sweeps g each (cond (due k x) (g k x) k) xs ∙ either (Same k) (due k x) (λ e. each k x) (λ e. refl)

  pub frees : (k : Kernel) → Same k (free_zombies k)
  unfolding free_zombies free
  frees k = sweeps free (λ j x. u.by_total _ _ ∙ moves j x _) k (queue k zombie_queue)

  pub wakes : (k : Kernel) → Same k (wake_idle k)
  unfolding wake_idle wake
  wakes k =
      let swept = sweeps wake (λ j x. moves j x _) k (queue k idle_queue) in
      either (Same k) (any_due k (queue k idle_queue)) (λ e. schedules _ ∙ swept) (λ e. swept)
