-- The first task of a queue that is due. Assumes nothing.
use Rattle.std.specs.Prelude.{◌≡◌, List, ◌∷◌, ℕ, ◌≤◌, ◌<◌}
use Rattle.laws_chain.specs.Lists.{All}
use Rattle.kernel.specs.Sizes.{task_count}
use Rattle.kernel.specs.Kernel.{task, queue}
use Rattle.kernel.specs.Seen.{seen}
use Rattle.queues.specs.First.{rest}

-- x is the first of queue q, and due; where the first is not, or there is none, x is no task's number, and no task of q is due.
pub record FirstDue (w : List ℕ) (q x : ℕ) : Type 0 where
  pub first : x < task_count → queue (seen w) q ≡ x ∷ rest (queue (seen w) q)
  pub due : x < task_count → (task (seen w) x).deadline ≤ (seen w).clock
  pub none : task_count ≤ x → All (λ (y : ℕ). (seen w).clock < (task (seen w) y).deadline) (queue (seen w) q)
