-- Where each word of a state stands: ranges, one behind the other, by the sizes. docs/LAYOUT.md has the same as a table. Assumes nothing.
use Rattle.std.specs.Prelude.{List, ℕ, ◌+◌, ◌*◌, get_or}
use Rattle.kernel.specs.Sizes.{task_count, semaphore_count, channel_count}
use Rattle.kernel.specs.Status.{queue_count}

-- Word number j. A sound state has none past its last, and what is read there is 0.
abbrev pub word : List ℕ → ℕ → ℕ
word w j = get_or w j 0

-- ---- numbers

abbrev pub clock_at : ℕ
clock_at = 0

abbrev pub stop_at : ℕ
stop_at = 1

abbrev pub running_at : ℕ
running_at = 2

abbrev pub total_at : ℕ
total_at = 3

-- ---- a head for each queue: ready, idle, zombie, and each semaphore's

abbrev pub heads_at : ℕ
heads_at = 4

abbrev pub head_at : ℕ → ℕ
head_at q = heads_at + q

-- ---- semaphores

abbrev pub semaphores_at : ℕ
semaphores_at = head_at queue_count

abbrev pub semaphore_at : ℕ → ℕ
semaphore_at s = semaphores_at + s

-- ---- a record for each task

abbrev pub tasks_at : ℕ
tasks_at = semaphore_at semaphore_count

abbrev pub record_size : ℕ
record_size = 8

-- The first word of the record of task x, and its word of number f.
abbrev pub record_at : ℕ → ℕ
record_at x = tasks_at + record_size * x

abbrev pub field : ℕ → ℕ → ℕ
field x f = record_at x + f

-- The words of a record: those of the class, status, deadline, and links. The last two are spare.
abbrev pub period_word : ℕ
period_word = 0

abbrev pub amount_word : ℕ
amount_word = 1

abbrev pub status_word : ℕ
status_word = 2

abbrev pub deadline_word : ℕ
deadline_word = 3

abbrev pub next_word : ℕ
next_word = 4

abbrev pub previous_word : ℕ
previous_word = 5

abbrev pub spare_word : ℕ
spare_word = 6

-- ---- sessions: that of task t on channel c has the number that it has in the model

abbrev pub sessions_at : ℕ
sessions_at = record_at task_count

abbrev pub session_at : ℕ → ℕ
session_at z = sessions_at + z

-- ---- a record for each channel: size, number of buffers, latest

abbrev pub channels_at : ℕ
channels_at = session_at (task_count * channel_count)

abbrev pub channel_at : ℕ → ℕ
channel_at c = channels_at + 3 * c

-- ---- how many there are

abbrev pub word_count : ℕ
word_count = channel_at channel_count
