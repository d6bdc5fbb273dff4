-- What a word means, whatever it is, and the word that stands for a thing. Assumes nothing.
use Rattle.std.specs.Prelude.{◌≡◌, true, cond, ℕ, ◌+◌, ◌-◌, ℤ, pos, eqb, ltb, None, Some}
use Rattle.laws_chain.specs.Chain.{end, target}
use Rattle.kernel.specs.declared.Class.{Class}
use Rattle.kernel.specs.declared.Class.TheVariants.{Nrt, Hard}
use Rattle.kernel.specs.declared.Status.{Status}
use Rattle.kernel.specs.declared.Status.TheVariants.{Free, Sleep, Exe, Ready, Idle, Zombie, Wait}
use Rattle.kernel.specs.declared.Stop.{Stop}
use Rattle.kernel.specs.declared.Stop.TheVariants.{Going, Overrun, Lifetime}
use Rattle.kernel.specs.declared.Semaphore.{Semaphore}
use Rattle.std.specs.declared.option.Option.{Option}
use Rattle.kernel.specs.declared.Session.{Session}
use Rattle.kernel.specs.declared.Session.TheVariants.{Closed, Write, Reading}
use Rattle.kernel.specs.Sizes.{most_buffers}
use Rattle.kernel.specs.Kernel.{unused_semaphore}

-- ---- links: the number of a task; -1 is 4,294,967,295

abbrev pub none : ℕ
none = 4294967295

unfoldable pub link : ℕ → ℤ
link n = cond (eqb n none) end (pos n)

abbrev pub link_code : ℤ → ℕ
link_code z = target none z

-- ---- a class: its period and its cost, or 0 and its priority

unfoldable pub class_of : ℕ → ℕ → Class
class_of period amount = cond (eqb period 0) (Nrt amount) (Hard period amount)

abbrev pub period_code : Class → ℕ
period_code (Nrt p) = 0
period_code (Hard p c) = p

abbrev pub amount_code : Class → ℕ
amount_code (Nrt p) = p
amount_code (Hard p c) = c

-- Its words mean it. Those of a HARD class of period 0, which no task can have, would mean an NRT one.
abbrev pub Classed : Class → Type 0
Classed c = class_of (period_code c) (amount_code c) ≡ c

-- ---- a status: FREE 0, SLEEP 1, EXE 2, and from 3 on that of queue 0, 1, ..: READY 3, IDLE 4, ZOMBIE 5, WAIT at semaphore s 6 + s

unfoldable pub status_of : ℕ → Status
status_of n =
    cond (eqb n 0) Free
    (cond (eqb n 1) Sleep
    (cond (eqb n 2) Exe
    (cond (eqb n 3) Ready
    (cond (eqb n 4) Idle
    (cond (eqb n 5) Zombie (Wait (record { 0 = n - 6 })))))))

abbrev pub status_code : Status → ℕ
status_code Free = 0
status_code Sleep = 1
status_code Exe = 2
status_code Ready = 3
status_code Idle = 4
status_code Zombie = 5
status_code (Wait s) = 6 + s.0

-- ---- a stop: 0 where the kernel is not stopped, 1 where it is stopped with -1, 2 with -2, which is its number in the model

unfoldable pub stop_of : ℕ → Stop
stop_of n = cond (eqb n 1) Overrun (cond (eqb n 2) Lifetime Going)

-- ---- a semaphore: 0 where it is unused, and else one more than its count

unfoldable pub semaphore_of : ℕ → Semaphore
semaphore_of n = cond (eqb n 0) unused_semaphore (record { used = true; count = n - 1 })

abbrev pub semaphore_code : Semaphore → ℕ
semaphore_code a = cond a.used (a.count + 1) 0

-- ---- the latest buffer: 0 where nothing was put, and else one more than its number

unfoldable pub latest_of : ℕ → Option ℕ
latest_of n = cond (eqb n 0) None (Some (n - 1))

abbrev pub latest_code : Option ℕ → ℕ
latest_code None = 0
latest_code (Some b) = b + 1

-- ---- a session: 0 closed, from 1 on a write of buffer 0, 1, .., and behind the last buffer's a reading of buffer 0, 1, ..

abbrev pub first_reading : ℕ
first_reading = 1 + most_buffers

unfoldable pub session_of : ℕ → Session
session_of n = cond (eqb n 0) Closed (cond (ltb n first_reading) (Write (n - 1)) (Reading (n - first_reading)))

abbrev pub session_code : Session → ℕ
session_code Closed = 0
session_code (Write b) = b + 1
session_code (Reading b) = b + first_reading
