-- What each status asks of the task that gets it. Assumes nothing.
use mathlib.Core.Path.{◌≡◌, refl, sym, ◌∙◌}
use mathlib.Core.Bool.{true, false, true≢false}
use mathlib.Core.Logic.{◌⊎◌, inl, inr}
use Prim.Native.Nat.{ℕ, ◌≤◌, ◌<◌}
use native.Mathlib.Omega.{arith}
use lib.Dec.{eqb}
use borrow.Author.Tests.{eqb-false}
use Rattle.kernel.specs.declared.Class.{Class}
use Rattle.kernel.specs.declared.Class.TheVariants.{Nrt}
use Rattle.kernel.specs.declared.Status.{Status}
use Rattle.kernel.specs.declared.Status.TheVariants.{Free, Sleep, Exe, Ready, Idle, Zombie, Wait}
use Rattle.kernel.specs.declared.Session.TheVariants.{Closed}
use Rattle.kernel.specs.Sizes.{semaphore_count, channel_count}
use Rattle.kernel.specs.Status.{FREE, READY, EXE, ZOMBIE, status_number, queue_of, waiters, stop_number}
use Rattle.kernel.specs.Kernel.{Kernel, semaphore, session, hard}
use Rattle.kernel.specs.Good.{Names, Suited, IdleAhead}
use Rattle.laws_effects.proofs.Standing.{waits_at}

-- Task i has no session.
abbrev pub Sessionless : Kernel → ℕ → Type 0
Sessionless k i = (c : ℕ) → c < channel_count → session k c i ≡ Closed

-- Of task i with this class and this deadline: what each status asks.
abbrev pub Asks : Kernel → ℕ → Class → ℕ → Status → Type 0
Asks k i c d Free = (i ≡ 0 → ⊥) × (c ≡ Nrt 0) × Sessionless k i
Asks k i c d Sleep = i ≡ 0 → ⊥
Asks k i c d Exe = k.clock ≤ d
Asks k i c d Ready = k.clock ≤ d
Asks k i c d Idle = (i ≡ 0 → ⊥) × (hard c ≡ true) × (k.clock < d)
Asks k i c d Zombie = (i ≡ 0 → ⊥) × (hard c ≡ true) × Sessionless k i
Asks k i c d (Wait s) = (i ≡ 0 → ⊥) × (hard c ≡ false) × (s.0 < semaphore_count) × ((semaphore k s.0).used ≡ true) × ((semaphore k s.0).count ≡ 0)

-- Two status numbers that differ.
never : {m n : ℕ} {A : Type 0} → eqb m n ≡ false → m ≡ n → A
never {m} {n} h e = absurd (eqb-false m n h e)

-- What it asks gives each clause of soundness that looks at a status.
module _ (k : Kernel) (i : ℕ) (c : Class) (d : ℕ) where
  pub main_status : (st : Status) → Asks k i c d st → i ≡ 0 → (status_number st ≡ EXE) ⊎ (status_number st ≡ READY)
  main_status Free a z = absurd (a.0 z)
  main_status Sleep a z = absurd (a z)
  main_status Exe a z = inl refl
  main_status Ready a z = inr refl
  main_status Idle a z = absurd (a.0 z)
  main_status Zombie a z = absurd (a.0 z)
  main_status (Wait s) a z = absurd (a.0 z)

  pub suited : (st : Status) → Asks k i c d st → Suited c (status_number st)
  suited Free a = record { free = λ z. a.1; hard_never_waits = λ h. never refl; idle_hard = never refl; zombie_hard = never refl }
  suited Sleep a = record { free = never refl; hard_never_waits = λ h. never refl; idle_hard = never refl; zombie_hard = never refl }
  suited Exe a = record { free = never refl; hard_never_waits = λ h. never refl; idle_hard = never refl; zombie_hard = never refl }
  suited Ready a = record { free = never refl; hard_never_waits = λ h. never refl; idle_hard = never refl; zombie_hard = never refl }
  suited Idle a = record { free = never refl; hard_never_waits = λ h. never refl; idle_hard = λ z. a.1; zombie_hard = never refl }
  suited Zombie a = record { free = never refl; hard_never_waits = λ h. never refl; idle_hard = never refl; zombie_hard = λ z. a.1 }
  suited (Wait s) a = record { free = never refl; hard_never_waits = λ h z. true≢false (sym h ∙ a.1); idle_hard = never refl; zombie_hard = never refl }

  pub names : (st : Status) → Asks k i c d st → Names k st
  names Free a = tt
  names Sleep a = tt
  names Exe a = tt
  names Ready a = tt
  names Idle a = tt
  names Zombie a = tt
  names (Wait s) a = (a.2, a.3)

  pub times : (st : Status) → Asks k i c d st
      → IdleAhead (stop_number k.stop) (status_number st) k.clock d × (status_number st ≡ READY → k.clock ≤ d) × (status_number st ≡ EXE → k.clock ≤ d)
  times Free a = omega arith
  times Sleep a = omega arith
  times Exe a = omega arith
  times Ready a = omega arith
  times Idle a = omega arith
  times Zombie a = omega arith
  times (Wait s) a = omega arith

  pub sessionless : (st : Status) → Asks k i c d st → (status_number st ≡ FREE → Sessionless k i) × (status_number st ≡ ZOMBIE → Sessionless k i)
  sessionless Free a = (λ z. a.2, never refl)
  sessionless Sleep a = (never refl, never refl)
  sessionless Exe a = (never refl, never refl)
  sessionless Ready a = (never refl, never refl)
  sessionless Idle a = (never refl, never refl)
  sessionless Zombie a = (never refl, λ z. a.2)
  sessionless (Wait s) a = (never refl, never refl)

  -- Who comes to the queue of semaphore q finds it used, with count 0.
  pub exhausted : (st : Status) → Asks k i c d st → (q : ℕ) → q < semaphore_count → queue_of st ≡ waiters q → ((semaphore k q).used ≡ true) × ((semaphore k q).count ≡ 0)
  exhausted Free a q l e = absurd (omega arith)
  exhausted Sleep a q l e = absurd (omega arith)
  exhausted Exe a q l e = absurd (omega arith)
  exhausted Ready a q l e = absurd (omega arith)
  exhausted Idle a q l e = absurd (omega arith)
  exhausted Zombie a q l e = absurd (omega arith)
  exhausted (Wait s) a q l e = let z : s.0 ≡ q = omega (arith, waits_at s.0 a.2) in rw (sym z) (a.3, a.4)
