-- What must hold of a channel's own record. Assumes nothing.
use Rattle.std.specs.Prelude.{◌≡◌, ℕ, ◌≤◌, ◌<◌}
use Rattle.kernel.specs.declared.Channel.{Channel}
use Rattle.std.specs.declared.option.Option.{Option}
use Rattle.std.specs.Prelude.{Some}
use Rattle.kernel.specs.Sizes.{longest_message, fewest_buffers, most_buffers}

-- An unused channel has size 0 and no buffers, a used one keeps its sizes.
pub record KeepsSizes (size buffers : ℕ) : Type 0 where
  pub longest : size ≤ longest_message
  pub most : buffers ≤ most_buffers
  pub fewest : 0 < size → fewest_buffers ≤ buffers
  pub unused : size ≡ 0 → buffers ≡ 0

-- Its latest is one of its buffers or none.
abbrev pub NamesLatest : ℕ → Option ℕ → Type 0
NamesLatest buffers latest = (b : ℕ) → latest ≡ Some b → b < buffers

pub record KeepsChannel (h : Channel) : Type 0 where
  pub sizes : KeepsSizes h.size h.buffers
  pub latest : NamesLatest h.buffers h.latest
