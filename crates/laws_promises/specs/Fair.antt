-- First joined, first taken, over one call. Assumes nothing.
use Rattle.std.specs.Prelude.{◌≡◌, ℕ, ◌≤◌}
use Rattle.kernel.specs.Status.{ready_queue}
use Rattle.kernel.specs.Kernel.{Kernel, task, queue}
use Rattle.laws_promises.specs.Earliest.{Before, IsReady}

-- From the kernel k to the kernel j.
pub record Fair (k j : Kernel) : Type 0 where
  -- who stays ready keeps its deadline;
  pub deadline : (x : ℕ) → IsReady k x → IsReady j x → (task j x).deadline ≡ (task k x).deadline
  -- two that stay ready keep their order;
  pub stays : (x y : ℕ) → IsReady k x → IsReady k y → IsReady j x → IsReady j y → Before x y (queue k ready_queue) → Before x y (queue j ready_queue)
  -- who has become ready stands behind all that stay ready with a deadline no later, the equal ones included;
  pub joins : (x y : ℕ) → IsReady k x → (IsReady k y → ⊥) → IsReady j x → IsReady j y → (task j x).deadline ≤ (task j y).deadline
      → Before x y (queue j ready_queue)
  -- and who stands behind another does not get the processor.
  pub taken : (x y : ℕ) → IsReady k x → IsReady k y → Before x y (queue k ready_queue) → j.running ≡ y → ⊥
