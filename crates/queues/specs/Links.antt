-- What the code finds in the links, and writes there. Assumes nothing.
use Rattle.std.specs.Prelude.{◌≡◌, Bool, cond, List, ℕ, ◌≤◌, ◌<◌, length, ltb, leb}
use Rattle.laws_chain.specs.Lists.{lead}
use Rattle.laws_chain.specs.Chain.{Chain, Gap}
use Rattle.kernel.specs.declared.Status.{Status}
use Rattle.kernel.specs.Sizes.{task_count}
use Rattle.kernel.specs.Status.{queue_of, queue_count}
use Rattle.kernel.specs.Kernel.{queue}
use Rattle.kernel.specs.Good.{deadline_of}
use Rattle.kernel.specs.Layout.{word, field, next_word, previous_word}
use Rattle.kernel.specs.Codes.{none, link}
use Rattle.kernel.specs.Seen.{status_in, next_in, previous_in, head_in, seen}
use Rattle.words.specs.Writes.{with_links, with_filing, with_previous, with_lead}

-- ---- what it finds

-- Queue q is a chain.
abbrev pub Linked : List ℕ → ℕ → Type 0
Linked w q = Chain task_count (next_in w) (previous_in w) (head_in w q) (queue (seen w) q)

-- A deadline no later than d is passed.
abbrev pub passes : List ℕ → ℕ → ℕ → Bool
passes w d x = leb (deadline_of (seen w) x) d

-- The words of the links on both sides of the place that a task of deadline d takes in queue q, and how many it passes there.
pub record Found (w : List ℕ) (q d before after n : ℕ) : Type 0 where
  pub sides : Gap (passes w d) (queue (seen w) q) (link before) (link after)
  pub count : n ≡ length (lead (passes w d) (queue (seen w) q))

-- ---- what it writes

-- What stands before the place, or the head of queue q, leads to n; what stands after it leads back to m.
abbrev pub relinked : List ℕ → ℕ → ℕ → ℕ → ℕ → ℕ → List ℕ
relinked w q before after n m = with_lead (with_previous w after m) q before n

-- Task i has gone out of whichever queue it stood in; it keeps its record, with no links.
unfoldable pub taken_out : List ℕ → ℕ → List ℕ
taken_out w i =
    let q = queue_of (status_in w i) in
    let before = word w (field i previous_word) in
    let after = word w (field i next_word) in
    cond (ltb q queue_count) (with_links (relinked w q before after after before) i none none) w

-- Task i has gone into queue q at its place, with this status and deadline, and has passed n tasks.
pub record Inserted (w : List ℕ) (i q : ℕ) (st : Status) (d : ℕ) (v : List ℕ) (n : ℕ) : Type 0 where
  pub before : ℕ
  pub after : ℕ
  pub found : Found w q d before after n
  pub is : v ≡ with_filing (relinked w q before after i i) i st d after before

-- It has gone into the queue of its status, if that has one.
pub record FiledIn (w : List ℕ) (i : ℕ) (st : Status) (d : ℕ) (v : List ℕ) (n : ℕ) : Type 0 where
  pub in_one : queue_of st < queue_count → Inserted w i (queue_of st) st d v n
  pub in_none : queue_count ≤ queue_of st → v ≡ with_filing w i st d none none
  pub none_passed : queue_count ≤ queue_of st → n ≡ 0
