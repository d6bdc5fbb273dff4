-- What is seen in words, whatever they are. Assumes nothing.
use Rattle.std.specs.Prelude.{List, [], ◌∷◌, ℕ, zero, suc, ◌+◌, ◌*◌, ℤ}
use Rattle.laws_chain.specs.Chain.{walk}
use Rattle.kernel.specs.declared.Class.{Class}
use Rattle.kernel.specs.declared.Status.{Status}
use Rattle.kernel.specs.declared.Task.{Task}
use Rattle.kernel.specs.declared.Semaphore.{Semaphore}
use Rattle.kernel.specs.declared.Channel.{Channel}
use Rattle.kernel.specs.declared.Slot.{Slot}
use Rattle.kernel.specs.Sizes.{task_count, semaphore_count, channel_count}
use Rattle.kernel.specs.Status.{queue_count}
use Rattle.kernel.specs.Kernel.{Bare, Kernel, slot}
use Rattle.kernel.specs.Layout.{word, clock_at, stop_at, running_at, total_at, head_at, semaphore_at, field, period_word, amount_word, status_word, deadline_word, next_word, previous_word, session_at, channel_at}
use Rattle.kernel.specs.Codes.{link, class_of, status_of, stop_of, semaphore_of, latest_of, session_of}

-- The list of f 0, f 1, .., n long.
unfoldable pub tabulate : {A : Type 0} → ℕ → (ℕ → A) → List A
tabulate zero f = []
tabulate (suc n) f = f 0 ∷ tabulate n (λ x. f (suc x))

-- ---- a task

abbrev pub class_in : List ℕ → ℕ → Class
class_in w x = class_of (word w (field x period_word)) (word w (field x amount_word))

abbrev pub status_in : List ℕ → ℕ → Status
status_in w x = status_of (word w (field x status_word))

abbrev pub deadline_in : List ℕ → ℕ → ℕ
deadline_in w x = word w (field x deadline_word)

abbrev pub next_in : List ℕ → ℕ → ℤ
next_in w x = link (word w (field x next_word))

abbrev pub previous_in : List ℕ → ℕ → ℤ
previous_in w x = link (word w (field x previous_word))

-- Its record without its links, and the whole record.
abbrev pub bare_in : List ℕ → ℕ → Bare
bare_in w x = record { class = class_in w x; status = status_in w x; deadline = deadline_in w x }

abbrev pub task_in : List ℕ → ℕ → Task
task_in w x = record { class = class_in w x; status = status_in w x; deadline = deadline_in w x; next = next_in w x; previous = previous_in w x }

-- ---- a queue: the tasks that its links lead through

abbrev pub head_in : List ℕ → ℕ → ℤ
head_in w q = link (word w (head_at q))

abbrev pub queue_in : List ℕ → ℕ → List ℕ
queue_in w q = walk task_count (next_in w) task_count (head_in w q)

-- ---- the rest

abbrev pub semaphore_in : List ℕ → ℕ → Semaphore
semaphore_in w s = semaphore_of (word w (semaphore_at s))

abbrev pub slot_in : List ℕ → ℕ → Slot
slot_in w z = slot (session_of (word w (session_at z)))

abbrev pub channel_in : List ℕ → ℕ → Channel
channel_in w c = record { size = word w (channel_at c + 0); buffers = word w (channel_at c + 1); latest = latest_of (word w (channel_at c + 2)) }

-- **Seen**: the kernel in the words.
abbrev pub seen : List ℕ → Kernel
seen w =
    record {
      clock = word w clock_at;
      stop = stop_of (word w stop_at);
      running = word w running_at;
      total = word w total_at;
      tasks = tabulate task_count (bare_in w);
      queues = tabulate queue_count (queue_in w);
      semaphores = tabulate semaphore_count (semaphore_in w);
      channels = tabulate channel_count (channel_in w);
      sessions = tabulate (task_count * channel_count) (slot_in w);
    }
