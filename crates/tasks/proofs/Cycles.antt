-- What cycling does, before the deadline and at it. Assumes nothing.
use mathlib.Core.Path.{◌≡◌, refl}
use mathlib.Core.Bool.{true, false}
use lib.Dec.{ltb}
use Rattle.kernel.specs.declared.Status.TheVariants.{Idle}
use Rattle.kernel.specs.Kernel.{Kernel, task, next_period, with_status}
use Rattle.kernel.specs.Moves.{move, dispatch}
use Rattle.kernel.specs.Tasks.{cycle}

module _ (k : Kernel) where
  pub cycle_before : ltb k.clock (task k k.running).deadline ≡ true → cycle k ≡ dispatch (move k k.running (with_status (task k k.running) Idle))
  unfolding cycle
  cycle_before e = rw e refl

  pub cycle_due : ltb k.clock (task k k.running).deadline ≡ false → cycle k ≡ dispatch (move k k.running (next_period (task k k.running)))
  unfolding cycle
  cycle_due e = rw e refl
