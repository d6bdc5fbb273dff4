-- The message that is shown. Assumes nothing.
use Rattle.std.specs.Prelude.{◌≡◌, List, [], ◌∷◌, ℕ, pos, length, Ok, Err}
use Rattle.kernel.specs.Answer.{Answer}
use Rattle.kernel.specs.Kernel.{Kernel, channel}
use Rattle.kernel.specs.Channels.{own, buffer, buffer_start, is_reading}
use Rattle.kernel.specs.Refusals.{when, unless, -6, -14, no_channel}
use Rattle.kernel.specs.Seen.{seen}
use Rattle.kernel.specs.Slices.{Slice, part_of}
use Rattle.refusals.specs.Tested.{Said, Tested, of_lent}

-- The message of the buffer that the running task's session on channel c holds, in its place in the memory.
abbrev pub message : Kernel → ℕ → Slice → Slice
message k c memory = part_of memory (buffer_start c (buffer (own k c))) (channel k c).size

-- The first where the rows let pass, else the second.
abbrev pub by_verdict : Said → Slice → Slice → Slice
by_verdict (Ok u) x y = x
by_verdict (Err r) x y = y

abbrev pub answering : Said → Answer
answering (Ok u) = Ok (pos 0)
answering (Err r) = Err r

-- The slice r and the answer a are what the rows of a showing say: the message, or the refusal and the other slice.
pub record Shown (w : List ℕ) (c : ℕ) (memory other : Slice) (a : Answer) (r : Slice) : Type 0 where
  pub verdict : Said
  pub tested : Tested (of_lent w (length memory.bytes) (when -6 (no_channel (seen w) c) ∷ unless -14 (is_reading (own (seen w) c)) ∷ [])) verdict
  pub answer : a ≡ answering verdict
  pub slice : r ≡ by_verdict verdict (message (seen w) c memory) other
