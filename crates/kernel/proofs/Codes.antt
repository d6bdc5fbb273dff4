-- What a word means has that word only, and what is written is read again. Assumes nothing.
use mathlib.Core.Path.{◌≡◌, refl, ap, sym, ◌∙◌}
use mathlib.Core.Bool.{Bool, true, false, cond}
use Prim.Native.Nat.{ℕ, zero, suc, ◌+◌, ◌-◌, ◌≤◌, ◌<◌}
use native.Mathlib.Omega.{arith}
use lib.IntN.{pos}
use lib.Dec.{eqb, ltb}
use borrow.Author.Rules.{rules}
use borrow.Author.Tests.{eqb-true, eqb-false, ltb-true, ltb-false, eq-eqb, ne_eqb, lt-ltb, le-ltb}
use Rattle.laws_chain.specs.Chain.{end, target}
use Rattle.laws_chain.proofs.Stretch.{same_task, no_task}
use Rattle.kernel.proofs.Decided.{either}
use Rattle.kernel.specs.declared.Class.TheVariants.{Nrt, Hard}
use Rattle.kernel.specs.declared.Status.{Status}
use Rattle.kernel.specs.declared.Status.TheVariants.{Free, Sleep, Exe, Ready, Idle, Zombie, Wait}
use Rattle.kernel.specs.declared.Stop.{Stop}
use Rattle.kernel.specs.declared.Stop.TheVariants.{Going, Overrun, Lifetime}
use Rattle.kernel.specs.declared.Semaphore.{Semaphore}
use Rattle.std.specs.Prelude.{None, Some}
use Rattle.std.specs.declared.option.Option.{Option}
use Rattle.kernel.specs.declared.Session.{Session}
use Rattle.kernel.specs.declared.Session.TheVariants.{Closed, Write, Reading}
use Rattle.kernel.specs.Sizes.{task_count, semaphore_count, most_buffers}
use Rattle.kernel.specs.Status.{queue_of, queue_count, stop_number}
use Rattle.kernel.specs.Kernel.{unused_semaphore}
use Rattle.kernel.specs.Codes.{none, link, link_code, class_of, period_code, amount_code, Classed, status_of, status_code, stop_of, semaphore_of, semaphore_code, latest_of, latest_code, first_reading, session_of, session_code}

-- Where the word of what a word means is that word, it has no other.
pub once : {A : Type 0} (f : ℕ → A) (code : A → ℕ) → ((n : ℕ) → code (f n) ≡ n) → (n m : ℕ) → f n ≡ f m → n ≡ m
once f code kept n m e = sym (kept n) ∙ ap code e ∙ kept m

-- ---- links

pub link_none : link none ≡ end
unfolding link
link_none = refl

pub link_some : (n : ℕ) → n < none → link n ≡ pos n
unfolding link
link_some n l = rw (ne_eqb n none (λ e. omega arith)) refl

link_kept : (n : ℕ) → link_code (link n) ≡ n
unfolding link
link_kept n = either (λ z. link_code z ≡ n) (eqb n none) (λ e. sym (eqb-true n none e)) (λ e. refl)

pub link_once : (n m : ℕ) → link n ≡ link m → n ≡ m
link_once = once link (λ z. link_code z) link_kept

-- A word below the number of tasks leads to that task, and any other to none.
pub leads_some : (n : ℕ) → n < task_count → target task_count (link n) ≡ n
leads_some n l = ap (target task_count) (link_some n (omega arith))

pub leads_none : (n : ℕ) → task_count ≤ n → task_count ≤ target task_count (link n)
unfolding link
leads_none n l = either (λ z. task_count ≤ target task_count z) (eqb n none) (λ e. omega arith) (λ e. l)

-- The word of the link to a task is its number.
pub link_is : (n x : ℕ) → pos x ≡ link n → n ≡ x
unfolding link
link_is n x = either (λ z. pos x ≡ z → n ≡ x) (eqb n none) (λ t e. absurd (no_task x e)) (λ t e. sym (same_task x n e))

-- ---- classes

pub class_kept : (p a : ℕ) → (period_code (class_of p a) ≡ p) × (amount_code (class_of p a) ≡ a)
unfolding class_of
class_kept p a = either (λ c. (period_code c ≡ p) × (amount_code c ≡ a)) (eqb p 0) (λ e. (sym (eqb-true p 0 e), refl)) (λ e. (refl, refl))

pub class_nrt : (a : ℕ) → Classed (Nrt a)
unfolding class_of
class_nrt a = refl

pub class_hard : (p a : ℕ) → 0 < p → Classed (Hard p a)
unfolding class_of
class_hard p a l = rw (ne_eqb p 0 (λ e. omega arith)) refl

-- ---- statuses

pub status_waits : (n : ℕ) → 6 ≤ n → status_of n ≡ Wait (record { 0 = n - 6 })
unfolding status_of
status_waits n l =
    rw (ne_eqb n 0 (λ e. omega arith), ne_eqb n 1 (λ e. omega arith), ne_eqb n 2 (λ e. omega arith), ne_eqb n 3 (λ e. omega arith), ne_eqb n 4 (λ e. omega arith), ne_eqb n 5 (λ e. omega arith)) refl

pub status_read : (st : Status) → status_of (status_code st) ≡ st
unfolding status_of
status_read Free = refl
status_read Sleep = refl
status_read Exe = refl
status_read Ready = refl
status_read Idle = refl
status_read Zombie = refl
status_read (Wait s) = status_waits (6 + s.0) (omega arith) ∙ ap (λ (n : ℕ). Wait (record { 0 = n })) (omega arith)

-- Each number is below 6 or not.
by_number : (P : ℕ → Type 0) → P 0 → P 1 → P 2 → P 3 → P 4 → P 5 → ((n : ℕ) → 6 ≤ n → P n) → (n : ℕ) → P n
by_number P a b c d e f g zero = a
by_number P a b c d e f g (suc zero) = b
by_number P a b c d e f g (suc (suc zero)) = c
by_number P a b c d e f g (suc (suc (suc zero))) = d
by_number P a b c d e f g (suc (suc (suc (suc zero)))) = e
by_number P a b c d e f g (suc (suc (suc (suc (suc zero))))) = f
by_number P a b c d e f g (suc (suc (suc (suc (suc (suc n)))))) = g (suc (suc (suc (suc (suc (suc n)))))) (omega arith)

pub status_kept : (n : ℕ) → status_code (status_of n) ≡ n
unfolding status_of
status_kept = by_number (λ n. status_code (status_of n) ≡ n) refl refl refl refl refl refl (λ n l. rw (status_waits n l) (omega arith))

-- The queue of a status, told by its word.
pub queue_word : (n : ℕ) → queue_of (status_of n) ≡ cond (ltb n 3) queue_count (cond (ltb (n - 3) queue_count) (n - 3) queue_count)
unfolding status_of
queue_word = by_number (λ n. queue_of (status_of n) ≡ cond (ltb n 3) queue_count (cond (ltb (n - 3) queue_count) (n - 3) queue_count)) refl refl refl refl refl refl waits
  where
    waits : (n : ℕ) → 6 ≤ n → queue_of (status_of n) ≡ cond (ltb n 3) queue_count (cond (ltb (n - 3) queue_count) (n - 3) queue_count)
    waits n h =
        rw (status_waits n h, le-ltb n 3 (omega arith))
        (either (λ q. q ≡ cond (ltb (n - 3) queue_count) (n - 3) queue_count) (ltb (n - 6) semaphore_count)
        (λ e. rw (lt-ltb (n - 3) queue_count (omega (arith, ltb-true (n - 6) semaphore_count e))) (omega arith))
        (λ e. rw (le-ltb (n - 3) queue_count (omega (arith, ltb-false (n - 6) semaphore_count e))) refl))

-- ---- stops

pub stop_small : (s : Stop) → stop_number s ≤ 2
stop_small Going = omega arith
stop_small Overrun = omega arith
stop_small Lifetime = omega arith

pub stop_read : (s : Stop) → stop_of (stop_number s) ≡ s
unfolding stop_of
stop_read Going = refl
stop_read Overrun = refl
stop_read Lifetime = refl

pub stop_kept : (n : ℕ) → n ≤ 2 → stop_number (stop_of n) ≡ n
unfolding stop_of
stop_kept n l =
    either (λ s. stop_number s ≡ n) (eqb n 1) (λ e. sym (eqb-true n 1 e))
    (λ e. either (λ s. stop_number s ≡ n) (eqb n 2) (λ g. sym (eqb-true n 2 g)) (λ g. omega (arith, eqb-false n 1 e, eqb-false n 2 g)))

-- ---- semaphores

-- A word that is 0, or one more than a number.
one_more : {A : Type 0} (z : A) (f : ℕ → A) (code : A → ℕ) → code z ≡ 0 → ((m : ℕ) → code (f m) ≡ m + 1) → (n : ℕ) → code (cond (eqb n 0) z (f (n - 1))) ≡ n
one_more z f code e h n = either (λ a. code a ≡ n) (eqb n 0) (λ y. e ∙ sym (eqb-true n 0 y)) (λ ne. h (n - 1) ∙ omega (arith, eqb-false n 0 ne))

pub semaphore_kept : (n : ℕ) → semaphore_code (semaphore_of n) ≡ n
unfolding semaphore_of
semaphore_kept = one_more unused_semaphore (λ m. record { used = true; count = m }) (λ a. semaphore_code a) refl (λ m. refl)

-- An unused one has count 0.
pub semaphore_read : (a : Semaphore) → (a.used ≡ false → a.count ≡ 0) → semaphore_of (semaphore_code a) ≡ a
unfolding semaphore_of
semaphore_read a z = go a.used a.count z
  where
    go : (u : Bool) (n : ℕ) → (u ≡ false → n ≡ 0) → semaphore_of (cond u (n + 1) 0) ≡ record { used = u; count = n }
    go true n z = rw (ne_eqb (n + 1) 0 (λ e. omega arith)) (ap (λ (m : ℕ). record { used = true; count = m }) (omega arith))
    go false n z = ap (λ (m : ℕ). record { used = false; count = m }) (sym (z refl))

-- ---- the latest buffer

pub latest_kept : (n : ℕ) → latest_code (latest_of n) ≡ n
unfolding latest_of
latest_kept = one_more None (λ m. Some m) (λ a. latest_code a) refl (λ m. refl)

pub latest_read : (a : Option ℕ) → latest_of (latest_code a) ≡ a
unfolding latest_of
latest_read None = refl
latest_read (Some b) = rw (ne_eqb (b + 1) 0 (λ e. omega arith)) (ap (λ (n : ℕ). Some n) (omega arith))

-- ---- sessions

pub session_kept : (n : ℕ) → session_code (session_of n) ≡ n
unfolding session_of
session_kept n =
    either (λ z. session_code z ≡ n) (eqb n 0) (λ e. sym (eqb-true n 0 e))
    (λ e. either (λ z. session_code z ≡ n) (ltb n first_reading) (λ l. omega (arith, eqb-false n 0 e)) (λ l. omega (arith, ltb-false n first_reading l)))

-- A buffer that a write names is one of those that a channel can have.
pub session_read : (z : Session) → ((b : ℕ) → z ≡ Write b → b < most_buffers) → session_of (session_code z) ≡ z
unfolding session_of
session_read Closed h = refl
session_read (Write b) h =
    rw (ne_eqb (b + 1) 0 (λ e. omega arith), lt-ltb (b + 1) first_reading (omega (arith, h b refl))) (ap (λ (n : ℕ). Write n) (omega arith))
session_read (Reading b) h =
    rw (ne_eqb (b + first_reading) 0 (λ e. omega arith), le-ltb (b + first_reading) first_reading (omega arith)) (ap (λ (n : ℕ). Reading n) (omega arith))

-- What a word tells, by the tests that led there.
pub ruleset told = (rules, eq-eqb, ne_eqb, lt-ltb, le-ltb, queue_word)
