-- Words that show kernels, step by step. Assumes nothing.
use mathlib.Core.Path.{◌≡◌, refl, ap, ◌∙◌}
use mathlib.Core.List.{List}
use Prim.Native.Nat.{ℕ}
use Rattle.kernel.specs.Kernel.{Kernel}
use Rattle.kernel.specs.Layout.{word, running_at}
use Rattle.kernel.specs.Seen.{seen}
use Rattle.kernel.specs.Sound.{Sound}
use Rattle.kernel.specs.Shows.{Kept, Shows}

-- The links of sound words are in order.
pub kept : {w : List ℕ} → Sound w → Kept w
kept h = record { formed = h.formed; filed = h.filed; queues = h.good.queues }

-- Words show what is seen in them.
pub itself : {w : List ℕ} → Kept w → Shows w (seen w)
itself h = record { kept = h; is = refl }

-- What is done to what is seen is done to what is shown.
pub then : {w v : List ℕ} {k : Kernel} (f : Kernel → Kernel) → Shows w k → Shows v (f (seen w)) → Shows v (f k)
then f a b = record { kept = b.kept; is = b.is ∙ ap f a.is }

-- Who runs in them.
pub running : {w : List ℕ} {k : Kernel} → Shows w k → word w running_at ≡ k.running
running h = ap (λ (j : Kernel). j.running) h.is
