-- Who runs, and who runs next. Assumes nothing.
use Rattle.std.specs.Prelude.{◌≡◌, true, false, ◌⊎◌, List, [], ◌∷◌, ℕ, ◌≤◌, ◌<◌, length}
use Rattle.laws_chain.specs.Lists.{Among}
use Rattle.kernel.specs.declared.Class.TheVariants.{Nrt}
use Rattle.kernel.specs.declared.Status.TheVariants.{Ready}
use Rattle.kernel.specs.Sizes.{task_count}
use Rattle.kernel.specs.Status.{READY, status_number, stop_number, queue_count, ready_queue}
use Rattle.kernel.specs.Kernel.{Bare, Kernel, task, queue, hard}
use Rattle.kernel.specs.Moves.{move, dispatch}
use Rattle.kernel.specs.Good.{Queued}

-- x stands before y.
abbrev pub Before : ℕ → ℕ → List ℕ → Type 0
Before x y [] = ⊥
Before x y (z ∷ zs) = ((z ≡ x) × Among y zs) ⊎ Before x y zs

-- x is a ready task.
pub record IsReady (k : Kernel) (x : ℕ) : Type 0 where
  pub is_task : x < task_count
  pub status : status_number (task k x).status ≡ READY

-- The queues are in order: so they are in a sound kernel, and so they are between the moves of a call, where the kernel need not be sound.
pub record QueuesKept (k : Kernel) : Type 0 where
  pub tasks : length k.tasks ≡ task_count
  pub lists : length k.queues ≡ queue_count
  pub queues : Queued k

-- Of equal deadlines the one that joined first is taken first, since dispatch takes the first:
pub record TieRule (k : Kernel) : Type 0 where
  -- who joins stands behind all that are ready with a deadline no later, the equal ones included;
  pub joins : (i : ℕ) (a : Bare) → i < task_count → a.status ≡ Ready → (x : ℕ) → IsReady k x → (x ≡ i → ⊥) → (task k x).deadline ≤ a.deadline
      → Before x i (queue (move k i a) ready_queue)
  -- whichever task moves, the others stay in their order;
  pub stays : (i : ℕ) (a : Bare) → i < task_count → (x y : ℕ) → (x ≡ i → ⊥) → (y ≡ i → ⊥) → Before x y (queue k ready_queue) → Before x y (queue (move k i a) ready_queue)
  -- and so on through every move.
  pub again : (i : ℕ) (a : Bare) → i < task_count → QueuesKept (move k i a)

pub record EarliestFirst (k : Kernel) : Type 0 where
  -- the running deadline is no later than any ready one
  pub runs : (x : ℕ) → IsReady k x → (task k k.running).deadline ≤ (task k x).deadline
  -- dispatch takes the first of the ready queue
  pub taken : (x : ℕ) (xs : List ℕ) → queue k ready_queue ≡ x ∷ xs → (dispatch k).running ≡ x
  -- an earlier deadline stands before a later one
  pub earlier : (x y : ℕ) → IsReady k x → IsReady k y → (task k x).deadline < (task k y).deadline → Before x y (queue k ready_queue)
  -- NRT stands behind every HARD, if not stopped, and by priority
  pub hard_first : (x y : ℕ) → IsReady k x → IsReady k y → stop_number k.stop ≡ 0 → hard (task k x).class ≡ true → hard (task k y).class ≡ false
      → Before x y (queue k ready_queue)
  pub by_priority : (x y p q : ℕ) → IsReady k x → IsReady k y → (task k x).class ≡ Nrt p → (task k y).class ≡ Nrt q → p < q → Before x y (queue k ready_queue)
  pub ties : TieRule k
