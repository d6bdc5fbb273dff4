-- A task's clauses, in the values that are tested. Assumes nothing.
use mathlib.Core.Logic.{◌↔◌}
use Prim.Native.Nat.{ℕ}
use Rattle.kernel.specs.Status.{status_number, stop_number}
use Rattle.kernel.specs.Kernel.{Bare, Kernel}
use Rattle.kernel.specs.Good.{Names, GoodTask}
use Rattle.sound_clauses.specs.Task.{Keeps}

pub clauses : (k : Kernel) (x : ℕ) (a : Bare) → GoodTask k x a ↔ (Keeps k.clock (stop_number k.stop) k.running x a.class (status_number a.status) a.deadline × Names k a.status)
clauses k x a = (λ g. search, λ h. search)
