-- Sound words: they are in form, and what their links and the kernel seen in them must satisfy. Assumes nothing.
use Rattle.std.specs.Prelude.{List, ℕ}
use Rattle.laws_chain.specs.Filing as Filing
use Rattle.kernel.specs.Sizes.{task_count}
use Rattle.kernel.specs.Status.{queue_count}
use Rattle.kernel.specs.Kernel.{queue}
use Rattle.kernel.specs.Good.{Good, standing}
use Rattle.kernel.specs.Seen.{next_in, previous_in, head_in, seen}
use Rattle.kernel.specs.Form.{Formed}

-- The links and heads hold these queues, of tasks that stand in these.
abbrev pub LinksHold : List ℕ → (ℕ → ℕ) → (ℕ → List ℕ) → Type 0
LinksHold w standing queue = Filing.Filed task_count queue_count standing (next_in w) (previous_in w) (head_in w) queue

-- They hold the queues that are seen. Links are mutual, and (records) -1 at the ends; FREE, SLEEP and EXE, which stand in no queue, have both links -1.
abbrev pub Filed : List ℕ → Type 0
Filed w = LinksHold w (standing (seen w)) (queue (seen w))

pub record Sound (w : List ℕ) : Type 0 where
  pub formed : Formed w
  pub filed : Filed w
  pub good : Good (seen w)
