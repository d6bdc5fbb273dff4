-- What a move means for the kernel that is seen. Assumes nothing.
use Rattle.std.specs.Prelude.{◌≡◌, List, ℕ, length, leb}
use Rattle.laws_chain.specs.Lists.{lead, remove}
use Rattle.kernel.specs.declared.Status.{Status}
use Rattle.kernel.specs.Status.{queue_of}
use Rattle.kernel.specs.Kernel.{Bare, Kernel, task, queue, with_status, with_deadline}
use Rattle.kernel.specs.Moves.{move}
use Rattle.kernel.specs.Seen.{seen}
use Rattle.kernel.specs.Shows.{Shows}

-- The record of task i with another status and deadline.
abbrev pub filed_record : Kernel → ℕ → Status → ℕ → Bare
filed_record k i st d = with_status (with_deadline (task k i) d) st

-- How many tasks task i passes on its way into the queue of the record a: those with a deadline no later.
unfoldable pub scanned : Kernel → ℕ → Bare → ℕ
scanned k i a = length (lead (λ x. leb (task k x).deadline a.deadline) (remove i (queue k (queue_of a.status))))

-- Task i has moved with the record a, and has passed n tasks.
pub record Moved (w : List ℕ) (i : ℕ) (a : Bare) (v : List ℕ) (n : ℕ) : Type 0 where
  pub shows : Shows v (move (seen w) i a)
  pub count : n ≡ scanned (seen w) i a
