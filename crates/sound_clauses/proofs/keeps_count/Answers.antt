-- A semaphore has waiters where its queue has a first task. Assumes nothing.
use mathlib.Core.Path.{◌≡◌}
use mathlib.Core.Bool.{Bool, true}
use mathlib.Core.List.{List, [], ◌∷◌}
use mathlib.Core.Logic.{◌↔◌}
use Prim.Native.Nat.{ℕ, ◌≤◌, ◌<◌}
use native.Mathlib.Omega.{arith}
use Rattle.kernel.specs.declared.Semaphore.{Semaphore}
use Rattle.kernel.specs.Sizes.{task_count, semaphore_count}
use Rattle.kernel.specs.Status.{waiters}
use Rattle.kernel.specs.Kernel.{queue}
use Rattle.kernel.specs.Good.{Counted, GoodSemaphore}
use Rattle.kernel.specs.Seen.{semaphore_in, seen}
use Rattle.kernel.proofs.Decided.{means}
use Rattle.words.proofs.Seen.{semaphore_seen}
use Rattle.queues.specs.First.{First}
use Rattle.sound_clauses.proofs.keeps_count.Goals as goal

some_not_none : {l xs : List ℕ} {x : ℕ} → l ≡ x ∷ xs → l ≡ [] → ⊥
some_not_none some none = let z : ◌≡◌ {A = ℕ} 0 1 = cc in omega arith

-- The test of the semaphore and of the first waiter that are read decides whether it is good.
tested : {w : List ℕ} {s x : ℕ} {a : Semaphore} {b : Bool} → s < semaphore_count → a ≡ semaphore_in w s → First w (waiters s) x → (b ≡ true) ↔ Counted a (task_count ≤ x)
    → (b ≡ true) ↔ GoodSemaphore (seen w) s
tested {w} {s} {x} l is first d =
    let past : queue (seen w) (waiters s) ≡ [] → task_count ≤ x = λ e. let never : x < task_count → ⊥ = λ h. some_not_none (first.some h) e in omega arith in
    rw (semaphore_seen w s l, ← is)
    (means d
    (λ g. record { fits = g.fits; counting = λ h. first.none (g.counting h); unused_count = g.unused_count; unused_waiters = λ e. first.none (g.unused_waiters e) })
    (λ g. record { fits = g.fits; counting = λ h. past (g.counting h); unused_count = g.unused_count; unused_waiters = λ e. past (g.unused_waiters e) }))

pub returns : goal.returns
returns c = tested c.requires c.semaphore-a.ensures c.first-first.ensures c.semaphore_good.ensures
