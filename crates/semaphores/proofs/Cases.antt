-- What new semaphore takes; a count that is written; wait and signal, by what the count and the waiters are. Assumes nothing.
use mathlib.Core.Path.{◌≡◌, refl, ap, sym}
use mathlib.Core.Bool.{Bool, true, false, true≢false, not}
use mathlib.Core.List.{List, [], ◌∷◌}
use Prim.Native.Nat.{ℕ, ◌+◌, ◌-◌, ◌≤◌, ◌<◌}
use native.Mathlib.Omega.{arith}
use lib.ListN.{set}
use lib.Dec.{ltb}
use borrow.Author.Tests.{lt-ltb, le-ltb, ltb-true, ltb-false}
use Rattle.kernel.specs.declared.Status.TheVariants.{Ready, Wait}
use Rattle.kernel.specs.Sizes.{task_count, semaphore_count}
use Rattle.kernel.specs.Status.{waiters}
use Rattle.kernel.specs.Kernel.{Kernel, task, queue, semaphore, with_status, with_semaphore}
use Rattle.kernel.specs.Moves.{move, dispatch, schedule}
use Rattle.kernel.specs.Semaphores.{counting, lowest_semaphore, wait, signal_to, signal}
use Rattle.kernel.specs.Calls.{new_semaphore, verb}
use Rattle.kernel.specs.Refusals.{empty}
use Rattle.kernel.specs.Layout.{semaphore_at}
use Rattle.kernel.specs.Codes.{semaphore_code}
use Rattle.kernel.specs.Seen.{seen}
use Rattle.kernel.specs.Sound.{Sound}
use Rattle.kernel.specs.Shows.{Kept, Shows}
use Rattle.kernel.proofs.Lowest.{found}
use Rattle.words.proofs.Entries.{semaphore_set}
use Rattle.queues.specs.First.{First}
use Rattle.std.specs.Prelude.{Ok}
use Rattle.refusals.specs.Tested.{Said, Verdict, Legal}
use Rattle.refusals.proofs.Answers.{allows, legal}

-- A legal new semaphore finds an unused one.
pub room : {w : List ℕ} {count : ℕ} → Legal (verb (new_semaphore count)) w → lowest_semaphore (seen w) < semaphore_count
unfolding lowest_semaphore
room l = (found semaphore_count _ (allows l).allowed.1).0

pub room_numbered : {w : List ℕ} {count n : ℕ} {v : Said} → Verdict (verb (new_semaphore count)) w v → Sound w → v ≡ Ok tt → n ≡ lowest_semaphore (seen w) → n < 9223372036854775808
room_numbered t h a e = let l = room (legal t h a) in omega arith

-- Semaphore s, used, has this count from now on.
pub counts : {w : List ℕ} {s : ℕ} (n : ℕ) → s < semaphore_count → Kept w → Shows (set w (semaphore_at s) (semaphore_code (counting n))) (with_semaphore (seen w) s (counting n))
counts {s = s} n l k = semaphore_set s (counting n) l (λ e. absurd (true≢false e)) k

-- Someone waits where the queue has a first.
pub some_wait : {w : List ℕ} {q x : ℕ} → First w q x → ltb x task_count ≡ not (empty (queue (seen w) q))
some_wait {w} {q} {x} f = go (ltb x task_count) refl
  where
    go : (b : Bool) → ltb x task_count ≡ b → b ≡ not (empty (queue (seen w) q))
    go true e = sym (ap (λ (xs : List ℕ). not (empty xs)) (f.some (ltb-true x task_count e)))
    go false e = sym (ap (λ (xs : List ℕ). not (empty xs)) (f.none (ltb-false x task_count e)))

module _ (k : Kernel) (q : ℕ) where
  abbrev count : ℕ
  count = (semaphore k q).count

  pub wait_passes : 0 < count → wait q k ≡ with_semaphore k q (counting (count - 1))
  unfolding wait
  wait_passes l = rw (lt-ltb 0 count l) refl

  pub wait_waits : count ≤ 0 → wait q k ≡ dispatch (move k k.running (with_status (task k k.running) (Wait (record { 0 = q }))))
  unfolding wait
  wait_waits l = rw (le-ltb 0 count l) refl

  pub signal_none : queue k (waiters q) ≡ [] → signal q k ≡ with_semaphore k q (counting (count + 1))
  unfolding signal
  signal_none e = ap (signal_to q k) e

  pub signal_first : {x : ℕ} {xs : List ℕ} → queue k (waiters q) ≡ x ∷ xs → signal q k ≡ schedule (move k x (with_status (task k x) Ready))
  unfolding signal
  signal_first e = ap (signal_to q k) e
