-- Words in which a record can become a task of a class. Assumes nothing.
use Rattle.std.specs.Prelude.{◌≡◌, List, ℕ, ◌+◌, ◌≤◌, ◌<◌}
use Rattle.kernel.specs.declared.Class.{Class}
use Rattle.kernel.specs.Sizes.{task_count, whole}
use Rattle.kernel.specs.Kernel.{share_of}
use Rattle.kernel.specs.Tasks.{lowest_free}
use Rattle.kernel.specs.Good.{Fits}
use Rattle.kernel.specs.Seen.{seen}
use Rattle.kernel.specs.Shows.{Kept}

pub record Creatable (w : List ℕ) (i : ℕ) (class : Class) : Type 0 where
  pub kept : Kept w
  pub lowest : i ≡ lowest_free (seen w)
  pub free : i < task_count
  pub sized : Fits class
  pub share : (seen w).total + share_of class ≤ whole
