-- What the recorder writes reads back equal, whatever stands behind it. Assumes nothing.
use mathlib.Core.Path.{◌≡◌, refl, ap, sym, ◌∙◌}
use mathlib.Core.Bool.{true}
use mathlib.Core.List.{List, ◌++◌, append_assoc}
use Prim.Native.Nat.{ℕ, zero, suc, ◌-◌, ◌*◌}
use native.Mathlib.Omega.{arith}
use lib.ListN.{length, take, drop, replicate, length-append, length-replicate}
use lib.Seq.{take_at, drop_at, drop-drop}
use Rattle.big_endian.specs.BigEndian.{bytes, part}
use Rattle.big_endian.proofs.Bytes.{Reads, reads}
use Rattle.tape.specs.declared.Record.{Record}
use Rattle.tape.specs.Block.{count_at, first_at, record_size, check_at, record_at, all_bytes, check, unchecked, written}
use Rattle.tape.specs.Reader.{records, records_of, known, spare, every, zeros, unused, accepts, reading}
use Rattle.tape.specs.Form.{Recorded}
use Rattle.tape.proofs.Fields.{records_back, every_holds}
use Rattle.tape.proofs.Held.{unchecked_length, written_length}
use Rattle.tape.proofs.Named.{Passes, accepted}

zeros_hold : (n : ℕ) → zeros (replicate n 0) ≡ true
unfolding zeros
zeros_hold zero = refl
zeros_hold (suc n) = zeros_hold n

module _ (number : ℕ) (rs : List Record) (more : List ℕ) (k : Recorded number rs) where
  abbrev b : List ℕ
  b = written number rs ++ more

  abbrev last : List ℕ
  last = bytes 2 (check (unchecked number rs)) ++ more

  abbrev unused_zeros : List ℕ
  unused_zeros = replicate (check_at - record_at (length rs)) 0

  parts : b ≡ unchecked number rs ++ last
  unfolding written
  parts = append_assoc (unchecked number rs) (bytes 2 (check (unchecked number rs))) more

  its_number : Reads 0 4 number b (bytes 2 (length rs) ++ (all_bytes rs ++ (unused_zeros ++ last)))
  unfolding unchecked
  its_number = reads b 0 4 number k.number_fits (parts ∙ simp append_assoc)

  its_count : Reads count_at 2 (length rs) b (all_bytes rs ++ (unused_zeros ++ last))
  its_count = reads b count_at 2 (length rs) (omega arith) its_number.behind

  its_records : (records_of (length rs) (drop first_at b) ≡ rs) × (drop (record_size * length rs) (drop first_at b) ≡ unused_zeros ++ last)
  its_records = records_back rs (drop first_at b) (unused_zeros ++ last) k.each its_count.behind

  its_check : Reads check_at 2 (check (unchecked number rs)) b more
  its_check =
      reads b check_at 2 (check (unchecked number rs)) (omega arith)
      (ap (drop check_at) parts ∙ drop_at (unchecked number rs) last check_at (unchecked_length number rs k.most))

  same_records : records b ≡ rs
  same_records = ap (λ (n : ℕ). records_of n (drop first_at b)) its_count.number ∙ its_records.0

  its_unused : unused b ≡ unused_zeros
  its_unused =
      let room = check_at - record_at (length rs) in
      ap (λ (n : ℕ). part (record_at n) (check_at - record_at n) b) its_count.number
      ∙ ap (take room) (sym (drop-drop (record_size * length rs) first_at b) ∙ its_records.1)
      ∙ take_at unused_zeros last room (length-replicate room 0)

  passes : Passes b number (length rs)
  passes =
      let front = ap (take check_at) parts ∙ take_at (unchecked number rs) last check_at (unchecked_length number rs k.most) in
      record {
        long = omega (arith, length-append (written number rs) more, written_length number rs k.most);
        checked = its_check.number ∙ ap check (sym front);
        some = omega (arith, its_count.number);
        most = omega (arith, its_count.number);
        verbs = ap (every known) same_records ∙ every_holds (λ r h. h.verb) rs k.each;
        spares = ap (every spare) same_records ∙ every_holds (λ r h. h.spares) rs k.each;
        rest = ap zeros its_unused ∙ zeros_hold (check_at - record_at (length rs));
        its_number = its_number.number;
        its_count = its_count.number;
      }

-- **read-back**: what the recorder writes reads back equal, whatever stands behind it.
pub read_back : (number : ℕ) (rs : List Record) (more : List ℕ) → Recorded number rs → (reading (written number rs ++ more) ≡ accepts number (length rs)) × (records (written number rs ++ more) ≡ rs)
read_back number rs more k = (accepted (written number rs ++ more) number (length rs) (passes number rs more k), same_records number rs more k)
