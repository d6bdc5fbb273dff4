-- One turn of the replay's loop: what is left behind it still decides the whole. Assumes nothing.
use mathlib.Core.Path.{◌≡◌, refl, ◌∙◌}
use mathlib.Core.Bool.{true, false, cond, not-eq-not}
use mathlib.Core.List.{List, [], ◌∷◌}
use Prim.Native.Nat.{ℕ, suc, ◌+◌, ◌-◌, ◌≤◌, ◌<◌}
use native.Mathlib.Numerals.{unary_clauses}
use native.Mathlib.Omega.{arith}
use lib.ListN.{length, drop}
use lib.Seq.{drop-drop}
use borrow.Author.Tests.{le-leb, lt-ltb}
use Rattle.kernel.specs.Answer.{Answer, same_number, said}
use Rattle.kernel.specs.Kernel.{Kernel}
use Rattle.kernel.specs.Seen.{seen}
use Rattle.pieces.specs.Program.{next_index}
use Rattle.tape.specs.declared.Record.{Record}
use Rattle.tape.specs.Block.{block_size, most_records, first_at, record_size, record_at}
use Rattle.tape.specs.Reader.{record_of, records_of, nth}
use Rattle.records.specs.Records.{asked}
use Rattle.records.proofs.Made.{Made}
use Rattle.recorder.specs.Tape.{next}
use Rattle.replayer.specs.declared.Course.TheVariants.{GoesOn}
use Rattle.replayer.specs.declared.Replayed.{Replayed}
use Rattle.replayer.specs.Replay.{Replaying, run, replaying, stopped}
use Rattle.replayer.proofs.Same.{one_number}

-- It goes on with the block of this number, and so many answers were the same.
abbrev pub ready : ℕ → ℕ → Replayed
ready number index = record { number = number; index = index; course = GoesOn }

-- A block is run so whatever the replay's marks were.
unmarked : (rs : List Record) (k : Kernel) (at : Replayed) → run rs (record { kernel = k; at = at }) ≡ run rs (record { kernel = k; at = ready at.number at.index })
unfolding run
unmarked [] k at = refl
unmarked (r ∷ rs) k at = refl

module _ (b : List ℕ) (n : ℕ) where
  -- The run of all n records, and of those from the i-th on.
  abbrev pub all : List ℕ → Replayed → Replaying
  all w at = run (records_of n (drop first_at b)) (replaying w at)

  abbrev pub from : ℕ → List ℕ → Replayed → Replaying
  from i w at = run (records_of (n - i) (drop (record_at i) b)) (replaying w at)

  pub none_passed : (w : List ℕ) (at : Replayed) → all w at ≡ from 0 w (ready at.number at.index)
  none_passed w at = simp unary_clauses (unmarked (records_of n (drop first_at b)) (seen w) at)

  module _ (number i index : ℕ) where
    pub all_passed : (w : List ℕ) → n ≤ i → from i w (ready number index) ≡ replaying w (ready (next number) index)
    unfolding run records_of
    all_passed w end = let e : n - i ≡ 0 = omega arith in rw e

    module _ (more : i < n) {w w' : List ℕ} {a : Answer} {r : Record} (read : r ≡ record_of (drop (record_at i) b)) (m : Made (asked r) w w' a) where
      one_passed : from i w (ready number index)
          ≡ cond (same_number (said a).number r.answer) (from (i + 1) w' (ready number (next_index index))) (replaying w' (stopped (ready number index) true))
      unfolding run records_of
      one_passed =
          let e : n - i ≡ suc (n - (i + 1)) = omega arith in
          let place : record_at i + record_size ≡ record_at (i + 1) = omega arith in
          rw (e, drop-drop record_size (record_at i) b, place, ← read, m.answer, m.kernel)

      pub answer_differs : (r.answer ≡ (said a).number → ⊥) → from i w (ready number index) ≡ replaying w' (stopped (ready number index) true)
      answer_differs other = let e : same_number (said a).number r.answer ≡ false = not-eq-not.0 (λ t. other ((one_number _ _).0 t)) in one_passed ∙ rw e

      pub answer_same : r.answer ≡ (said a).number → from i w (ready number index) ≡ from (i + 1) w' (ready number (next_index index))
      answer_same one = one_passed ∙ rw ((one_number _ _).1 one)

-- The record that is read.
pub its_record : (b : List ℕ) (i : ℕ) → block_size ≤ length b → i < most_records → nth b i ≡ record_of (drop (record_at i) b)
its_record b i long l = rw (le-leb block_size (length b) long, lt-ltb i most_records l)
