-- Every call's record has room in its 16 bytes. Assumes nothing.
use mathlib.Core.Path.{◌≡◌, refl}
use mathlib.Core.Bool.{true}
use mathlib.Core.List.{[]}
use mathlib.Core.Option.{Option, none, some}
use Prim.Native.Nat.{ℕ, ◌<◌}
use native.Mathlib.Omega.{arith}
use lib.Dec.{ltb}
use lib.IntN.{ℤ, pos}
use borrow.Author.Tests.{ltb-true}
use Rattle.kernel.specs.Sizes.{task_count, semaphore_count}
use Rattle.kernel.specs.Kernel.{Kernel}
use Rattle.kernel.specs.Tasks.{lowest_free}
use Rattle.kernel.specs.Semaphores.{lowest_semaphore}
use Rattle.kernel.specs.Calls.{Verb, tick, create_hard, create_nrt, activate, sleep, cycle, end, kill, new_semaphore, delete, wait, signal, verb, work, effect}
use Rattle.kernel.specs.Refusals.{first, table, rows}
use Rattle.kernel.specs.Step.{by_table, step}
use Rattle.kernel.proofs.Allowed.{VerbAllowed, allowed}
use Rattle.kernel.proofs.Decided.{either}
use Rattle.kernel.proofs.Lowest.{found}
use Rattle.kernel.proofs.Refusals.{Each, listed}
use Rattle.tape.specs.Block.{four_bytes}
use Rattle.tape.specs.Reader.{known, spare}
use Rattle.tape.specs.Form.{Signed, Recordable}
use Rattle.records.specs.Records.{cut, outcome, record_of}
use Rattle.records.proofs.Again.{handed}

cut_fits : (n : ℕ) → cut n < four_bytes
unfolding cut
cut_fits n = either (λ (m : ℕ). m < four_bytes) (ltb n four_bytes) (ltb-true n four_bytes) (λ t. omega arith)

refusals_fit : Each Signed table
refusals_fit = search arith depth 15

module _ (k : Kernel) where
  -- A verb's number is one of the list, its spare arguments are 0, and the number of its success has room.
  formed : (v : Verb) → (known (record_of v k) ≡ true) × (spare (record_of v k) ≡ true) × (VerbAllowed v k → Signed (pos (work v k).number))
  unfolding cut record_of lowest_free lowest_semaphore
  formed tick = (refl, refl, λ a. omega arith)
  formed (create_hard p c) = (refl, refl, λ a. omega (arith, (found task_count _ a.1).0))
  formed (create_nrt p) = (refl, refl, λ a. omega (arith, (found task_count _ a.1).0))
  formed (activate n) = (refl, refl, λ a. omega arith)
  formed sleep = (refl, refl, λ a. omega arith)
  formed cycle = (refl, refl, λ a. omega arith)
  formed end = (refl, refl, λ a. omega arith)
  formed (kill n) = (refl, refl, λ a. omega arith)
  formed (new_semaphore n) = (refl, refl, λ a. omega (arith, (found semaphore_count _ a.1).0))
  formed (delete s) = (refl, refl, λ a. omega arith)
  formed (wait s) = (refl, refl, λ a. omega arith)
  formed (signal s) = (refl, refl, λ a. omega arith)

  answer_fits : (v : Verb) → Signed (outcome v k).answer.number
  unfolding step effect
  answer_fits v = go (first (rows (verb v) (handed k))) refl
    where
      go : (o : Option ℤ) → first (rows (verb v) (handed k)) ≡ o → Signed (by_table o (effect (verb v) k []) (handed k)).answer.number
      go none e = (formed v).2 (allowed (handed k) (verb v) e).allowed
      go (some x) e = listed Signed (verb v) (handed k) refusals_fit e

-- **recordable**: every call's record has room in its 16 bytes.
pub recordable : (v : Verb) (k : Kernel) → Recordable (record_of v k)
unfolding record_of
recordable v k =
    record {
      verb = (formed k v).0;
      spares = (formed k v).1;
      first = cut_fits _;
      second = cut_fits _;
      answer = answer_fits k v;
      running = omega arith;
      clock = omega arith;
    }
