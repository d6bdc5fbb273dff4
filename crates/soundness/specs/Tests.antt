-- What the test asks of each record, each queue and each task, so that the words are in form and the links hold the queues. Assumes nothing.
use Rattle.std.specs.Prelude.{◌≡◌, List, ℕ, ◌≤◌, ◌<◌}
use Rattle.laws_chain.specs.Lists.{All, Among, Rising}
use Rattle.laws_chain.specs.Chain.{end}
use Rattle.kernel.specs.Status.{queue_count}
use Rattle.kernel.specs.Kernel.{Kernel, queue}
use Rattle.kernel.specs.Good.{standing, deadline_of}
use Rattle.kernel.specs.Layout.{word, field, spare_word, record_size}
use Rattle.kernel.specs.Seen.{next_in, previous_in, seen}
use Rattle.queues.specs.Links.{Linked}

-- The spare words of task x are 0.
abbrev pub Spare : List ℕ → ℕ → Type 0
Spare w x = (f : ℕ) → spare_word ≤ f → f < record_size → word w (field x f) ≡ 0

-- The tasks of queue q have its status, and stand by rising deadline.
pub record Sorted (k : Kernel) (q : ℕ) : Type 0 where
  pub only : All (λ (x : ℕ). standing k x ≡ q) (queue k q)
  pub rising : Rising (deadline_of k) (queue k q)

pub record GoodQueue (w : List ℕ) (q : ℕ) : Type 0 where
  pub linked : Linked w q
  pub sorted : Sorted (seen w) q

-- Task x has both links -1.
pub record Loose (w : List ℕ) (x : ℕ) : Type 0 where
  pub next : next_in w x ≡ end
  pub previous : previous_in w x ≡ end

-- Task x stands in the queue of its status, if that has one, and is loose if not.
pub record FiledTask (w : List ℕ) (x : ℕ) : Type 0 where
  pub stands : standing (seen w) x < queue_count → Among x (queue (seen w) (standing (seen w) x))
  pub loose : queue_count ≤ standing (seen w) x → Loose w x
