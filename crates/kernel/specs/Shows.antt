-- Words whose links are in order, and what they show. Assumes nothing.
use Rattle.std.specs.Prelude.{◌≡◌, List, ℕ}
use Rattle.kernel.specs.Kernel.{Kernel}
use Rattle.kernel.specs.Good.{Queued}
use Rattle.kernel.specs.Seen.{seen}
use Rattle.kernel.specs.Form.{Formed}
use Rattle.kernel.specs.Sound.{Filed}

-- The words are in form, the links hold the queues, and each queue holds exactly its tasks, once each, by rising deadline.
pub record Kept (w : List ℕ) : Type 0 where
  pub formed : Formed w
  pub filed : Filed w
  pub queues : Queued (seen w)

-- Such words, in which the kernel k is seen.
pub record Shows (w : List ℕ) (k : Kernel) : Type 0 where
  pub kept : Kept w
  pub is : seen w ≡ k
