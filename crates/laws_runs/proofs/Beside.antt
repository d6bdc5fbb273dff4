-- The calls on tasks, time and semaphores leave the channels, and their sessions but for those that end and kill close. Assumes nothing.
use mathlib.Core.Path.{◌≡◌, refl, ◌∙◌}
use mathlib.Core.List.{List, [], ◌∷◌}
use Prim.Native.Nat.{ℕ, ◌+◌}
use lib.Dec.{eqb, ltb}
use borrow.Author.Tests.{eqb-true}
use Rattle.kernel.specs.declared.Channel.{Channel}
use Rattle.kernel.specs.declared.Slot.{Slot}
use Rattle.kernel.specs.Sizes.{lifetime}
use Rattle.kernel.specs.Status.{waiters}
use Rattle.kernel.specs.Kernel.{Kernel, queue, semaphore, with_clock}
use Rattle.kernel.specs.Moves.{move, dispatch, schedule}
use Rattle.kernel.specs.Tick.{free_zombies, overrun, tick}
use Rattle.kernel.specs.Tasks.{finish, end, kill}
use Rattle.kernel.specs.Semaphores.{wait, signal_to, signal}
use Rattle.kernel.proofs.Decided.{either}
use Rattle.laws_effects.proofs.Sessions.{without}
use Rattle.laws_effects.proofs.Untouched as Untouched
use Rattle.laws_effects.proofs.Untouched.{Untouched}

-- What lies beside tasks, time and semaphores.
abbrev pub beside : Kernel → List Channel × List Slot
beside k = (k.channels, k.sessions)

-- In the kernel j that is as it was in k.
abbrev pub Beside : Kernel → Kernel → Type 0
Beside k j = beside j ≡ beside k

untouched : Untouched beside
untouched = record { by_tasks = λ k ts qs. refl; by_running = λ k x. refl; by_total = λ k n. refl }

pub dispatches : (k : Kernel) → Beside k (dispatch k)
dispatches = Untouched.dispatches untouched

pub schedules : (k : Kernel) → Beside k (schedule k)
schedules = Untouched.schedules untouched

pub ticks : (k : Kernel) → Beside k (tick k)
unfolding tick
ticks k =
    let j = with_clock k (k.clock + 1) in
    either (Beside k) (eqb j.clock lifetime) (λ e. refl) (λ e. either (Beside k) (overrun j) (λ o. refl) (λ o. Untouched.wakes untouched (free_zombies j) ∙ Untouched.frees untouched j))

-- ---- semaphores

module _ (k : Kernel) where
  pub waits : (s : ℕ) → Beside k (wait s k)
  unfolding wait move
  waits s = either (Beside k) (ltb 0 (semaphore k s).count) (λ e. refl) (λ e. dispatches _)

  pub signals : (s : ℕ) → Beside k (signal s k)
  unfolding signal move
  signals s = go (queue k (waiters s))
    where
      go : (xs : List ℕ) → Beside k (signal_to s k xs)
      go [] = refl
      go (x ∷ xs) = schedules _

  -- ---- end and kill

  -- They close the sessions of the task that ends.
  pub ends : Beside (without k k.running) (end k)
  unfolding end finish move
  ends = dispatches _

  pub kills : (n : ℕ) → Beside (without k n) (kill n k)
  unfolding kill finish move
  kills n = either (Beside (without k n)) (eqb n k.running) (λ e. rw (eqb-true n k.running e) ends) (λ e. refl)
