-- The fresh kernel: clock 0, no stop, task 0 EXE, the rest FREE or unused, share total 0. Assumes nothing.
use Rattle.std.specs.Prelude.{List, [], ◌∷◌, ℕ, zero, suc, ◌+◌, ◌-◌, ◌*◌, set, replicate}
use Rattle.kernel.specs.declared.Class.TheVariants.{Nrt}
use Rattle.kernel.specs.declared.Status.TheVariants.{Exe}
use Rattle.kernel.specs.declared.Stop.TheVariants.{Going}
use Rattle.kernel.specs.declared.Session.TheVariants.{Closed}
use Rattle.kernel.specs.declared.State.{State}
use Rattle.kernel.specs.Sizes.{task_count, semaphore_count, channel_count, main_priority, nrt_deadline}
use Rattle.kernel.specs.Status.{queue_count}
use Rattle.kernel.specs.Layout.{heads_at, record_size, field, amount_word, status_word, deadline_word, next_word, previous_word, word_count}
use Rattle.kernel.specs.Codes.{none, status_code}
use Rattle.kernel.specs.Kernel.{Bare, Kernel, blank, unused_semaphore, unused_channel, slot, with_clock}

-- The main task, which runs.
abbrev pub main : Bare
main = record { class = Nrt main_priority; status = Exe; deadline = nrt_deadline main_priority }

unfoldable pub fresh : Kernel
fresh =
    record {
      clock = 0;
      stop = Going;
      running = 0;
      total = 0;
      tasks = main ∷ replicate (task_count - 1) blank;
      queues = replicate queue_count [];
      semaphores = replicate semaphore_count unused_semaphore;
      channels = replicate channel_count unused_channel;
      sessions = replicate (task_count * channel_count) (slot Closed);
    }

-- A kernel that is fresh but for its clock.
abbrev pub fresh_at : ℕ → Kernel
fresh_at n = with_clock fresh n

-- ---- its words

-- -1 in n words: the first at this place, and each so many behind the one before.
unfoldable pub with_none : List ℕ → (from step n : ℕ) → List ℕ
with_none w from step zero = w
with_none w from step (suc n) = set (with_none w from step n) (from + step * n) none

-- The record of task 0 is the main task's.
unfoldable pub with_main : List ℕ → List ℕ
with_main w = set (set (set w (field 0 amount_word) main_priority) (field 0 status_word) (status_code Exe)) (field 0 deadline_word) (nrt_deadline main_priority)

-- Every word is 0 but for heads, links and the main task.
unfoldable pub fresh_words : List ℕ
fresh_words =
    let headless = with_none (replicate word_count 0) heads_at 1 queue_count in
    let nextless = with_none headless (field 0 next_word) record_size task_count in
    with_main (with_none nextless (field 0 previous_word) record_size task_count)

abbrev pub fresh_state : State
fresh_state = record { words = fresh_words }
