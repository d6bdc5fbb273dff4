-- The first task of a queue. Assumes nothing.
use Rattle.std.specs.Prelude.{◌≡◌, List, [], ◌∷◌, ℕ, ◌≤◌, ◌<◌}
use Rattle.kernel.specs.Sizes.{task_count}
use Rattle.kernel.specs.Kernel.{queue}
use Rattle.kernel.specs.Layout.{word, head_at}
use Rattle.kernel.specs.Seen.{seen}

-- All of a list but its first.
abbrev pub rest : List ℕ → List ℕ
rest [] = []
rest (x ∷ xs) = xs

-- x is the word of the head of queue q: its first task; where the queue is empty, x is no task's number.
pub record First (w : List ℕ) (q x : ℕ) : Type 0 where
  pub is : x ≡ word w (head_at q)
  pub some : x < task_count → queue (seen w) q ≡ x ∷ rest (queue (seen w) q)
  pub none : task_count ≤ x → queue (seen w) q ≡ []
