-- A block under way: it begins with no records, one more is put, and it is closed; and its sizes. Assumes nothing.
use mathlib.Core.Path.{◌≡◌, refl, ap, sym, ◌∙◌}
use mathlib.Core.Bool.{true, and-eq-true_iff}
use mathlib.Core.List.{List, [], ◌∷◌, ◌++◌, append_assoc, append-nil}
use mathlib.Core.Logic.{inl}
use Prim.Native.Nat.{ℕ, ◌+◌, ◌-◌, ◌*◌, ◌≤◌, ◌<◌}
use native.Mathlib.Omega.{arith}
use lib.Dec.{leb, ltb}
use lib.ListN.{length, drop, replicate, length-append, length-drop, length-replicate}
use borrow.Author.Tests.{leb-true, le-leb, ltb-true, lt-ltb}
use Rattle.big_endian.specs.BigEndian.{bytes, part}
use Rattle.big_endian.proofs.Bytes.{bytes_length, part_length, parts_join}
use Rattle.kernel.specs.Channels.{over}
use Rattle.kernel.specs.Sizes.{within}
use Rattle.kernel.proofs.Decided.{either}
use Rattle.kernel.proofs.Over.{over_length, over_apart, over_here}
use Rattle.kernel.proofs.Sizes.{from_to}
use Rattle.tape.specs.declared.Record.{Record}
use Rattle.tape.specs.Block.{block_size, first_at, record_size, most_records, check_at, record_at, has_place, record_bytes, all_bytes, check, unchecked, written}
use Rattle.tape.specs.Writing.{placed, may_close, closing, closed}
use Rattle.tape.specs.Form.{Holds}
use Rattle.tape.proofs.Fields.{record_length, all_length}

-- ---- sizes

-- What is laid out up to the check, whatever the records' bytes are.
laid_length : (number n : ℕ) (bs : List ℕ) → length bs ≡ record_size * n → n ≤ most_records
    → length (bytes 4 number ++ (bytes 2 n ++ (bs ++ replicate (check_at - record_at n) 0))) ≡ check_at
laid_length number n bs size most = simp (length-append, bytes_length, length-replicate, size) (omega arith)

pub unchecked_length : (number : ℕ) (rs : List Record) → length rs ≤ most_records → length (unchecked number rs) ≡ check_at
unfolding unchecked
unchecked_length number rs most = laid_length number (length rs) (all_bytes rs) (all_length rs) most

pub written_length : (number : ℕ) (rs : List Record) → length rs ≤ most_records → length (written number rs) ≡ block_size
unfolding written
written_length number rs most = simp (length-append, bytes_length, unchecked_length number rs most)

placed_fits : (b : List ℕ) (i : ℕ) (r : Record) → has_place b i ≡ true → record_at i + length (record_bytes r) ≤ length b
placed_fits b i r t =
    let has = (and-eq-true_iff (leb block_size (length b)) (ltb i most_records)).0 t in
    omega (arith, leb-true block_size (length b) has.0, ltb-true i most_records has.1, record_length r)

pub placed_length : (b : List ℕ) (i : ℕ) (r : Record) → length (placed b i r) ≡ length b
placed_length b i r = either (λ (m : List ℕ). length m ≡ length b) (has_place b i) (λ t. over_length b (record_at i) (record_bytes r) (placed_fits b i r t)) (λ t. refl)

closing_length : (b : List ℕ) (number n : ℕ) → block_size ≤ length b → n ≤ most_records → length (closing number n b) ≡ check_at
unfolding closing
closing_length b number n long most = laid_length number n (part first_at (record_size * n) b) (part_length first_at (record_size * n) b (omega arith)) most

pub closed_length : (b : List ℕ) (number n : ℕ) → length (closed b number n) ≡ length b
unfolding closed
closed_length b number n = either (λ (m : List ℕ). length m ≡ length b) (may_close b n) long (λ t. refl)
  where
    long : may_close b n ≡ true → length (closing number n b ++ (bytes 2 (check (closing number n b)) ++ drop block_size b)) ≡ length b
    long t =
        let may = (and-eq-true_iff (leb block_size (length b)) (within 1 n most_records)).0 t in
        let room = leb-true block_size (length b) may.0 in
        simp (length-append, bytes_length, length-drop, closing_length b number n room (from_to 1 n most_records may.1).1) (omega arith)

-- ---- records put

pub none_held : (b : List ℕ) → Holds b []
unfolding all_bytes
none_held b = refl

all_bytes_last : (rs : List Record) (r : Record) → all_bytes (rs ++ (r ∷ [])) ≡ all_bytes rs ++ record_bytes r
unfolding all_bytes
all_bytes_last [] r = append-nil (record_bytes r)
all_bytes_last (s ∷ rs) r = rw (all_bytes_last rs r) (sym (append_assoc (record_bytes s) (all_bytes rs) (record_bytes r)))

pub one_more_held : (b : List ℕ) (rs : List Record) (r : Record) → block_size ≤ length b → length rs < most_records → Holds b rs → Holds (placed b (length rs) r) (rs ++ (r ∷ []))
one_more_held b rs r long room h =
    let n = length rs in
    let bs = record_bytes r in
    let has = (and-eq-true_iff (leb block_size (length b)) (ltb n most_records)).1 (le-leb block_size (length b) long, lt-ltb n most_records room) in
    let fits = placed_fits b n r has in
    let m = over b (record_at n) bs in
    let before = over_apart b (record_at n) bs fits first_at (record_size * n) (inl (omega arith)) ∙ h in
    let here = ap (λ (k : ℕ). part (record_at n) k m) (sym (record_length r)) ∙ over_here b (record_at n) bs fits in
    let size : record_size * length (rs ++ (r ∷ [])) ≡ record_size * n + record_size = omega (arith, length-append rs (r ∷ [])) in
    rw (has, size, all_bytes_last rs r) (sym (parts_join first_at (record_size * n) record_size m) ∙ (λ i. before i ++ here i))

-- ---- closed

pub closed_written : (b : List ℕ) (number : ℕ) (rs : List Record) → block_size ≤ length b → 1 ≤ length rs → length rs ≤ most_records → Holds b rs
    → closed b number (length rs) ≡ written number rs ++ drop block_size b
unfolding closing closed unchecked written
closed_written b number rs long some most h =
    rw (le-leb block_size (length b) long, le-leb 1 (length rs) some, le-leb (length rs) most_records most, h)
    (sym (append_assoc (unchecked number rs) (bytes 2 (check (unchecked number rs))) (drop block_size b)))
