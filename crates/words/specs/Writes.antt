-- What the leaves write, to the letter. Assumes nothing.
use Rattle.std.specs.Prelude.{cond, List, [], ◌∷◌, ℕ, suc, ◌+◌, ltb, set}
use Rattle.kernel.specs.declared.Class.{Class}
use Rattle.kernel.specs.declared.Status.{Status}
use Rattle.kernel.specs.declared.Channel.{Channel}
use Rattle.kernel.specs.Sizes.{task_count}
use Rattle.kernel.specs.Layout.{head_at, record_at, field, period_word, status_word, next_word, previous_word, channel_at}
use Rattle.kernel.specs.Codes.{period_code, amount_code, status_code, latest_code}

-- These words stand, one behind the other, from b + f on.
abbrev pub puts : List ℕ → ℕ → ℕ → List ℕ → List ℕ
puts w b f [] = w
puts w b f (n ∷ ns) = puts (set w (b + f) n) b (suc f) ns

-- ---- the record of task x

abbrev pub with_class : List ℕ → ℕ → Class → List ℕ
with_class w x c = puts w (record_at x) period_word (period_code c ∷ amount_code c ∷ [])

abbrev pub with_links : List ℕ → ℕ → ℕ → ℕ → List ℕ
with_links w x next previous = puts w (record_at x) next_word (next ∷ previous ∷ [])

-- What files a task: another status and deadline, and these links.
abbrev pub with_filing : List ℕ → ℕ → Status → ℕ → ℕ → ℕ → List ℕ
with_filing w x st d next previous = puts w (record_at x) status_word (status_code st ∷ d ∷ next ∷ previous ∷ [])

-- ---- its neighbours

-- Task x has another previous link. Past the table nothing changes.
unfoldable pub with_previous : List ℕ → ℕ → ℕ → List ℕ
with_previous w x n = cond (ltb x task_count) (set w (field x previous_word) n) w

-- Task x, or the head of queue q where x is no task, leads to n.
unfoldable pub with_lead : List ℕ → ℕ → ℕ → ℕ → List ℕ
with_lead w q x n = cond (ltb x task_count) (set w (field x next_word) n) (set w (head_at q) n)

-- ---- the record of channel c

abbrev pub with_channel : List ℕ → ℕ → Channel → List ℕ
with_channel w c a = puts w (channel_at c) 0 (a.size ∷ a.buffers ∷ latest_code a.latest ∷ [])
