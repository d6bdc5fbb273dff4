-- Words in form. Every word of a link, a class, a status, a semaphore, a latest buffer or a session means something, and no two the same: whether
-- it may be so is for the other clauses of soundness. What is left is here. Assumes nothing.
use Rattle.std.specs.Prelude.{◌≡◌, List, ℕ, ◌≤◌, ◌<◌, length}
use Rattle.kernel.specs.Sizes.{task_count}
use Rattle.kernel.specs.Layout.{word, stop_at, field, spare_word, record_size, word_count}

pub record Formed (w : List ℕ) : Type 0 where
  -- there are as many as the layout says
  pub long : length w ≡ word_count
  -- the stop is one of three
  pub stop : word w stop_at ≤ 2
  -- the spare words of each record are 0
  pub spare : (x f : ℕ) → x < task_count → spare_word ≤ f → f < record_size → word w (field x f) ≡ 0
