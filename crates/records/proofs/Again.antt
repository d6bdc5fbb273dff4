-- A record's call comes to what the recorded call came to. Assumes nothing.
use mathlib.Core.Path.{◌≡◌, refl, ◌∙◌}
use mathlib.Core.Bool.{true, cond, not, ◌||◌}
use mathlib.Core.List.{[]}
use mathlib.Core.Option.{Option, some}
use Prim.Native.Nat.{ℕ, ◌-◌, ◌≤◌}
use native.Mathlib.Omega.{arith}
use lib.Dec.{eqb, ltb}
use lib.IntN.{ℤ}
use borrow.Author.Tests.{ltb-false, le-leb, lt-ltb, ne_eqb}
use Rattle.kernel.specs.Sizes.{task_count, semaphore_count, fitting, last_priority, highest_count}
use Rattle.kernel.specs.Status.{stop_number}
use Rattle.kernel.specs.Kernel.{Kernel}
use Rattle.kernel.specs.Calls.{Verb, tick, create_hard, create_nrt, activate, sleep, cycle, end, kill, new_semaphore, delete, wait, signal, verb, effect}
use Rattle.kernel.specs.Refusals.{Handed, first, main_runs, hard_runs, verb_rows, -8, -6, -7}
use Rattle.kernel.specs.Step.{by_table, step}
use Rattle.kernel.proofs.Decided.{either, same, negated}
use Rattle.kernel.proofs.Sizes.{Sizes, sizes}
use Rattle.tape.specs.Block.{four_bytes}
use Rattle.records.specs.Records.{cut, outcome, record_of, asked}

-- The highest number that is recorded as it is, or a higher one.
abbrev High : ℕ → Type 0
High n = four_bytes - 1 ≤ n

unfitting : {p c : ℕ} → (Sizes p c → ⊥) → not (fitting p c) ≡ true
unfitting never = (negated (same refl)).1 (λ t. never (sizes t))

-- What a verb of a script is handed.
abbrev pub handed : Kernel → Handed
handed k = record { sound = true; kernel = k; memory = [] }

module _ (k : Kernel) where
  -- Verbs that their own rows refuse with one number come to the same.
  refused_alike : (v w : Verb) (x : ℤ) → first (verb_rows v k) ≡ some x → first (verb_rows w k) ≡ some x → outcome v k ≡ outcome w k
  unfolding step effect
  refused_alike v w x e f =
      let alike : Option ℤ → Type 0 = λ o. by_table o (effect (verb v) k []) (handed k) ≡ by_table o (effect (verb w) k []) (handed k) in
      rw (e, f) (either alike (eqb (stop_number k.stop) 1) (λ t. refl) (λ t. either alike (eqb (stop_number k.stop) 2) (λ t. refl) (λ t. refl)))

  -- So a verb that is refused alike for all high numbers comes to the same with a number as with what is recorded of it.
  as_cut : (f : ℕ → Verb) (x : ℤ) → ((n : ℕ) → High n → first (verb_rows (f n) k) ≡ some x) → (n : ℕ) → outcome (f (cut n)) k ≡ outcome (f n) k
  unfolding cut
  as_cut f x high n =
      either (λ (m : ℕ). outcome (f m) k ≡ outcome (f n) k) (ltb n four_bytes)
      (λ t. refl)
      (λ t. refused_alike (f (four_bytes - 1)) (f n) x (high (four_bytes - 1) (omega arith)) (high n (omega (arith, ltb-false))))

-- **same_outcome**: a record's call comes to what the recorded call came to: a number above 4,294,967,295 is refused as that one is.
pub same_outcome : (v : Verb) (k : Kernel) → outcome (asked (record_of v k)) k ≡ outcome v k
unfolding record_of
same_outcome tick k = refl
same_outcome (create_hard p c) k =
    as_cut k (λ n. create_hard n (cut c)) -7 (λ n l. rw (unfitting (λ (s : Sizes n (cut c)). omega arith))) p
    ∙ as_cut k (create_hard p) -7 (λ n l. rw (unfitting (λ (s : Sizes p n). omega arith))) c
same_outcome (create_nrt p) k = as_cut k create_nrt -7 (λ n l. rw (lt-ltb last_priority n (omega arith))) p
same_outcome (activate n) k = as_cut k activate -6 (λ n l. rw (le-leb task_count n (omega arith))) n
same_outcome sleep k = refl
same_outcome cycle k = refl
same_outcome end k = refl
same_outcome (kill n) k = as_cut k kill -6 (λ n l. rw (ne_eqb n 0 (λ e. omega arith), le-leb task_count n (omega arith))) n
same_outcome (new_semaphore n) k = as_cut k new_semaphore -7 (λ n l. rw (lt-ltb highest_count n (omega arith))) n
same_outcome (delete s) k = as_cut k delete -6 (λ n l. rw (le-leb semaphore_count n (omega arith))) s
same_outcome (wait s) k =
    let b = main_runs k || hard_runs k in
    let x = cond b -8 -6 in
    as_cut k wait x (λ n l. rw (le-leb semaphore_count n (omega arith)) (either (λ (o : Option ℤ). o ≡ some x) b (λ t. rw t) (λ t. rw t))) s
same_outcome (signal s) k = as_cut k signal -6 (λ n l. rw (le-leb semaphore_count n (omega arith))) s
