-- A deadline on activation fits 32 bits. Assumes nothing.
use mathlib.Core.List.{List}
use Prim.Native.Nat.{ℕ, ◌+◌, ◌≤◌, ◌<◌}
use native.Mathlib.Omega.{arith}
use Rattle.kernel.specs.declared.Class.{Class}
use Rattle.kernel.specs.declared.Class.TheVariants.{Nrt, Hard}
use Rattle.kernel.specs.Sizes.{task_count}
use Rattle.kernel.specs.Kernel.{task, period_of}
use Rattle.kernel.specs.Tasks.{release}
use Rattle.kernel.specs.Seen.{seen}
use Rattle.kernel.specs.Sound.{Sound}
use Rattle.kernel.proofs.Deadlines.{period_most, deadline_most}

release_most : (c : Class) (clock d : ℕ) → release c clock d ≤ clock + period_of c + d
release_most (Hard p c) clock d = omega arith
release_most (Nrt p) clock d = omega arith

module _ {w : List ℕ} (h : Sound w) (n : ℕ) (l : n < task_count) where
  pub release_fits : release (task (seen w) n).class (seen w).clock (task (seen w) n).deadline < 4294967296
  release_fits =
      let a = task (seen w) n in
      let clock = h.good.clocked.clock in
      let g = h.good.tasks n l in
      omega (arith, release_most a.class (seen w).clock a.deadline, period_most g, deadline_most clock g, clock)

  -- So does the next one.
  pub renewed_fits : (task (seen w) n).deadline + period_of (task (seen w) n).class < 4294967296
  renewed_fits = let g = h.good.tasks n l in omega (arith, period_most g, deadline_most h.good.clocked.clock g)
