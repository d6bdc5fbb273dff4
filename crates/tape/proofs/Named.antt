-- The reader's tests: it accepts where they all hold, and else names the first that fails. Assumes nothing.
use mathlib.Core.Path.{◌≡◌, ap}
use mathlib.Core.Bool.{true, and-eq-true_iff}
use mathlib.Core.List.{List, [], ◌∷◌}
use mathlib.Core.Logic.{◌↔◌}
use Prim.Native.Nat.{ℕ, ◌≤◌}
use native.Mathlib.Omega.{arith}
use lib.ListN.{length, take}
use borrow.Author.Tests.{leb-true, le-leb, eqb-true, eq-eqb}
use Rattle.std.proofs.Common.{Err}
use Rattle.kernel.proofs.Decided.{either}
use Rattle.kernel.proofs.Sizes.{from_to}
use Rattle.tape.specs.declared.Fault.{Fault}
use Rattle.tape.specs.declared.Accepted.{Accepted}
use Rattle.tape.specs.Block.{block_size, most_records, check_at, check}
use Rattle.tape.specs.Reader.{number_of, count_of, check_of, records, known, spare, every, zeros, unused, Test, tests, Reading, accepts, judged, reading}
use Rattle.tape.specs.Form.{FirstFails, here, later}

-- ---- any tests

abbrev AllHold : List Test → Type 0
AllHold [] = Unit
AllHold (t ∷ ts) = (t.holds ≡ true) × AllHold ts

module _ (number n : ℕ) where
  accepted_by : (ts : List Test) (a : Reading) → judged ts a ≡ accepts number n → AllHold ts × (a ≡ accepts number n)
  accepted_by [] a = λ e. (tt, e)
  accepted_by (t ∷ ts) a =
      either (λ (z : Reading). z ≡ accepts number n → AllHold (t ∷ ts) × (a ≡ accepts number n)) t.holds
      (λ holds e. let others = accepted_by ts a e in ((holds, others.0), others.1))
      (λ fails e. absurd (let z : ◌≡◌ {A = ℕ} 0 1 = cc in omega arith))

  module _ (f : Fault) where
    first_fails : (ts : List Test) → judged ts (accepts number n) ≡ Err f → FirstFails f ts
    first_fails [] = λ e. absurd (let z : ◌≡◌ {A = ℕ} 0 1 = cc in omega arith)
    first_fails (t ∷ ts) =
        either (λ (z : Reading). z ≡ Err f → FirstFails f (t ∷ ts)) t.holds
        (λ holds e. later holds (first_fails ts e))
        (λ fails e. here (cc) fails)

    names : {ts : List Test} → FirstFails f ts → judged ts (accepts number n) ≡ Err f
    names (here e fails) = rw fails (ap Err e)
    names (later holds h) = rw holds (names h)

-- ---- the reader's

-- **refused_by_name**: each name exactly where its test is the first that fails.
pub refused_by_name : (b : List ℕ) (f : Fault) → (reading b ≡ Err f) ↔ FirstFails f (tests b)
unfolding reading
refused_by_name b f = (first_fails (number_of b) (count_of b) f (tests b), names (number_of b) (count_of b) f)

-- What is accepted says one number and one count.
one_reading : {number n number' n' : ℕ} → accepts number n ≡ accepts number' n' → (number ≡ number') × (n ≡ n')
one_reading {number} {n} {number'} {n'} e =
    let same : ◌≡◌ {A = Accepted} (record { number = number; count = n }) (record { number = number'; count = n' }) = cc in
    (ap (λ (a : Accepted). a.number) same, ap (λ (a : Accepted). a.count) same)

-- What they ask of a block, and what it then says.
pub record Passes (b : List ℕ) (number n : ℕ) : Type 0 where
  pub long : block_size ≤ length b
  pub checked : check_of b ≡ check (take check_at b)
  pub some : 1 ≤ count_of b
  pub most : count_of b ≤ most_records
  pub verbs : every known (records b) ≡ true
  pub spares : every spare (records b) ≡ true
  pub rest : zeros (unused b) ≡ true
  pub its_number : number_of b ≡ number
  pub its_count : count_of b ≡ n

pub passes : (b : List ℕ) (number n : ℕ) → reading b ≡ accepts number n → Passes b number n
unfolding reading
passes b number n e = asked h.0
  where
    h : AllHold (tests b) × (accepts (number_of b) (count_of b) ≡ accepts number n)
    h = accepted_by number n (tests b) (accepts (number_of b) (count_of b)) e

    asked : AllHold (tests b) → Passes b number n
    asked (long, (checked, (counted, (verbs, (spared, none))))) =
        let c = from_to 1 (count_of b) most_records counted in
        let s = (and-eq-true_iff (every spare (records b)) (zeros (unused b))).0 spared in
        let a = one_reading h.1 in
        record {
          long = leb-true block_size (length b) long;
          checked = eqb-true (check_of b) (check (take check_at b)) checked;
          some = c.0;
          most = c.1;
          verbs = verbs;
          spares = s.0;
          rest = s.1;
          its_number = a.0;
          its_count = a.1;
        }

pub accepted : (b : List ℕ) (number n : ℕ) → Passes b number n → reading b ≡ accepts number n
unfolding reading
accepted b number n p =
    rw (
      le-leb block_size (length b) p.long,
      eq-eqb (check_of b) (check (take check_at b)) p.checked,
      le-leb 1 (count_of b) p.some,
      le-leb (count_of b) most_records p.most,
      p.verbs,
      p.spares,
      p.rest,
    )
    (λ i. accepts (p.its_number i) (p.its_count i))
