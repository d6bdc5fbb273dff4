-- An accepted block is one that the recorder could have written, and written again it is the same bytes. Assumes nothing.
use mathlib.Core.Path.{◌≡◌, refl, ap, sym, ◌∙◌}
use mathlib.Core.Bool.{true, and-eq-true_iff}
use mathlib.Core.List.{List, [], ◌∷◌, ◌++◌}
use Prim.Native.Nat.{ℕ, ◌+◌, ◌-◌, ◌*◌, ◌≤◌}
use native.Mathlib.Omega.{arith}
use lib.Dec.{eqb}
use lib.ListN.{length, take, drop, replicate, length-drop}
use borrow.Author.Tests.{eqb-true}
use Rattle.big_endian.specs.BigEndian.{part}
use Rattle.big_endian.proofs.Bytes.{part_length, parts_join, drop_low, part_fits, part_said, said_before}
use Rattle.tape.specs.Block.{block_size, count_at, first_at, record_size, check_at, record_at, all_bytes, unchecked, written}
use Rattle.tape.specs.Reader.{count_of, records, zeros, unused, accepts, reading}
use Rattle.tape.specs.Form.{Bytes, Recorded}
use Rattle.tape.proofs.Fields.{records_length, records_again, records_fit}
use Rattle.tape.proofs.Named.{Passes, passes}

zeros_are : (bs : List ℕ) → zeros bs ≡ true → replicate (length bs) 0 ≡ bs
unfolding zeros
zeros_are [] z = refl
zeros_are (b ∷ bs) z = let both = (and-eq-true_iff (eqb b 0) (zeros bs)).0 z in λ i. sym (eqb-true b 0 both.0) i ∷ zeros_are bs both.1 i

module _ (b : List ℕ) (number n : ℕ) (low : Bytes b) (p : Passes b number n) where
  counted : length (records b) ≡ count_of b
  counted = records_length (count_of b) (drop first_at b)

  fits : record_size * count_of b ≤ length (drop first_at b)
  fits = omega (arith, length-drop first_at b)

  -- How many bytes stand behind the records, up to the check.
  abbrev room : ℕ
  room = check_at - record_at (count_of b)

  behind : replicate room 0 ≡ unused b
  behind = ap (λ (k : ℕ). replicate k 0) (sym (part_length (record_at (count_of b)) room b (omega arith))) ∙ zeros_are (unused b) p.rest

  body : all_bytes (records b) ++ replicate room 0 ≡ part first_at 504 b
  body =
      let size : record_size * count_of b + room ≡ 504 = omega arith in
      rw (records_again (count_of b) (drop first_at b) (drop_low first_at b low) fits, behind)
      (parts_join first_at (record_size * count_of b) room b ∙ ap (λ (k : ℕ). part first_at k b) size)

  front : unchecked number (records b) ≡ take check_at b
  unfolding unchecked
  front =
      rw (← p.its_number, counted)
      (said_before b low 0 4 (omega arith) 506
      (said_before b low count_at 2 (omega arith) 504 body))

-- **same_bytes_again**: an accepted block written again is the same bytes.
pub same_bytes_again : (b : List ℕ) (number n : ℕ) → Bytes b → reading b ≡ accepts number n → written number (records b) ≡ take block_size b
unfolding written
same_bytes_again b number n low e =
    let p = passes b number n e in
    rw (front b number n low p, ← p.checked, part_said b low check_at 2 (omega arith)) (parts_join 0 check_at 2 b)

-- **accepted_recorded**: an accepted block is one that the recorder could have written.
pub accepted_recorded : (b : List ℕ) (number n : ℕ) → Bytes b → reading b ≡ accepts number n → Recorded number (records b) × (length (records b) ≡ n)
accepted_recorded b number n low e =
    let p = passes b number n e in
    let size = counted b number n low p in (
      record {
        number_fits = omega (arith, part_fits b low 0 4 (omega arith));
        some = omega arith;
        most = omega arith;
        each = records_fit (count_of b) (drop first_at b) (drop_low first_at b low) (fits b number n low p) p.verbs p.spares;
      },
      size ∙ p.its_count,
    )
