-- n tasks in m queues: `standing x` is the number of the queue of task x, and m or more where it has none. Assumes nothing.
use Rattle.std.specs.Prelude.{◌≡◌, List, ℕ, ◌≤◌, ◌<◌, ℤ}
use Rattle.laws_chain.specs.Lists.{All, Among, Once, Rising}
use Rattle.laws_chain.specs.Chain.{Chain, end}

-- The list of queue q holds exactly its tasks, once each, by rising deadline.
pub record Queue (n : ℕ) (standing deadline : ℕ → ℕ) (q : ℕ) (xs : List ℕ) : Type 0 where
  pub only : All (λ (x : ℕ). (x < n) × (standing x ≡ q)) xs
  pub all : (x : ℕ) → x < n → standing x ≡ q → Among x xs
  pub once : Once xs
  pub rising : Rising deadline xs

-- The links hold the queues.
pub record Filed (n m : ℕ) (standing : ℕ → ℕ) (next previous head : ℕ → ℤ) (queue : ℕ → List ℕ) : Type 0 where
  -- each queue is a chain from its head to -1, and links are mutual
  pub linked : (q : ℕ) → q < m → Chain n next previous (head q) (queue q)
  -- a task that stands in no queue has both links -1
  pub alone_next : (x : ℕ) → x < n → m ≤ standing x → next x ≡ end
  pub alone_previous : (x : ℕ) → x < n → m ≤ standing x → previous x ≡ end
