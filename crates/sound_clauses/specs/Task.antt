-- What the tests ask of a task, and of a class. Assumes nothing.
use Rattle.std.specs.Prelude.{◌≡◌, true, ◌↔◌, ℕ}
use Rattle.kernel.specs.declared.Class.{Class}
use Rattle.kernel.specs.Status.{EXE}
use Rattle.kernel.specs.Kernel.{hard}
use Rattle.kernel.specs.Good.{Fits, Timely, MainOrSized, Suited, IdleAhead}

-- What is asked of task x, in a kernel with clock t, the stop of number w and the running task i, of its class, its deadline d and the number n of its status, but for the semaphore that it names.
pub record Keeps (t w i x : ℕ) (class : Class) (n d : ℕ) : Type 0 where
  pub exe : (n ≡ EXE) ↔ (x ≡ i)
  pub main_or_sized : MainOrSized x class n
  pub timely : Timely t class n d
  pub suited : Suited class n
  pub idle_ahead : IdleAhead w n t d

-- A HARD class keeps the sizes; of an NRT one nothing is said.
abbrev pub HardFits : Class → Type 0
HardFits class = hard class ≡ true → Fits class
