-- A record in its 16 bytes, and records one behind the other: back and forth. Assumes nothing.
use mathlib.Core.Path.{◌≡◌, refl, ap, sym, ◌∙◌}
use mathlib.Core.Bool.{Bool, true, and-eq-true_iff}
use mathlib.Core.List.{List, [], ◌∷◌, ◌++◌, append_assoc}
use Prim.Native.Nat.{ℕ, zero, suc, ◌+◌, ◌-◌, ◌*◌, ◌%◌, ◌≤◌, ◌<◌}
use native.Mathlib.Omega.{arith}
use lib.Dec.{ltb}
use lib.IntN.{ℤ, pos, negsuc}
use lib.ListN.{length, take, drop, length-append, length-drop}
use lib.Seq.{take-add, drop-drop}
use borrow.Author.Tests.{lt-ltb, le-ltb, ltb-true, ltb-false}
use Rattle.big_endian.specs.BigEndian.{value, part}
use Rattle.big_endian.proofs.Bytes.{bytes_length, reads, drop_low, part_fits, part_said, said_before}
use Rattle.kernel.proofs.Decided.{either}
use Rattle.kernel.proofs.Sizes.{from_to}
use Rattle.tape.specs.declared.Record.{Record}
use Rattle.tape.specs.Block.{record_size, four_bytes, complement, record_bytes, all_bytes}
use Rattle.tape.specs.Reader.{signed, record_of, records_of, arities, known, spare, every}
use Rattle.tape.specs.Form.{Bytes, Signed, Recordable, AllRecordable}

-- ---- two's complement

complement_fits : (z : ℤ) → complement z < four_bytes
complement_fits (pos n) = omega arith
complement_fits (negsuc n) = omega arith

signed_back : (z : ℤ) → Signed z → signed (complement z) ≡ z
signed_back (pos n) l = let e : n % four_bytes ≡ n = omega arith in rw (e, lt-ltb n 2147483648 l)
signed_back (negsuc n) l =
    let e : n % four_bytes ≡ n = omega arith in
    let back : four_bytes - suc (four_bytes - suc n) ≡ n = omega arith in
    rw (e, le-ltb (four_bytes - suc n) 2147483648 (omega arith), back)

signed_again : (v : ℕ) → v < four_bytes → Signed (signed v) × (complement (signed v) ≡ v)
signed_again v l =
    either (λ (z : ℤ). Signed z × (complement z ≡ v)) (ltb v 2147483648)
    (λ t. let low = ltb-true v 2147483648 t in (low, omega arith))
    (λ t. let high = ltb-false v 2147483648 t in (omega arith, omega arith))

-- ---- a record

pub record_length : (r : Record) → length (record_bytes r) ≡ record_size
unfolding record_bytes
record_length r = simp (length-append, bytes_length)

-- Its bytes read back as it, and what stands behind them is behind it.
record_back : (r : Record) (bs more : List ℕ) → Recordable r → bs ≡ record_bytes r ++ more → (record_of bs ≡ r) × (drop record_size bs ≡ more)
unfolding record_bytes record_of
record_back r bs more k e =
    let v = reads bs 0 1 r.verb (omega (arith, from_to 1 r.verb (length arities) k.verb)) (simp append_assoc at e) in
    let f = reads bs 1 4 r.first k.first v.behind in
    let s = reads bs 5 4 r.second k.second f.behind in
    let a = reads bs 9 4 (complement r.answer) (complement_fits r.answer) s.behind in
    let t = reads bs 13 1 r.running k.running a.behind in
    let c = reads bs 14 2 r.clock k.clock t.behind in
    let z = ap signed a.number ∙ signed_back r.answer k.answer in
    (λ i. record { verb = v.number i; first = f.number i; second = s.number i; answer = z i; running = t.number i; clock = c.number i }, c.behind)

-- The record that bytes begin with has these bytes, and room in them.
module _ (bs : List ℕ) (low : Bytes bs) (long : record_size ≤ length bs) where
  answered : Signed (signed (value (part 9 4 bs))) × (complement (signed (value (part 9 4 bs))) ≡ value (part 9 4 bs))
  answered = signed_again (value (part 9 4 bs)) (part_fits bs low 9 4 (omega arith))

  record_again : record_bytes (record_of bs) ≡ take record_size bs
  unfolding record_bytes record_of
  record_again =
      said_before bs low 0 1 (omega arith) 15
      (said_before bs low 1 4 (omega arith) 11
      (said_before bs low 5 4 (omega arith) 7
      (rw answered.1 (said_before bs low 9 4 (omega arith) 3
      (said_before bs low 13 1 (omega arith) 2
      (part_said bs low 14 2 (omega arith)))))))

  record_fits : known (record_of bs) ≡ true → spare (record_of bs) ≡ true → Recordable (record_of bs)
  unfolding record_of
  record_fits verb spares =
      let fits = part_fits bs low in
      record {
        verb = verb;
        spares = spares;
        first = fits 1 4 (omega arith);
        second = fits 5 4 (omega arith);
        answer = answered.0;
        running = fits 13 1 (omega arith);
        clock = fits 14 2 (omega arith);
      }

-- ---- records one behind the other

pub all_length : (rs : List Record) → length (all_bytes rs) ≡ record_size * length rs
unfolding all_bytes
all_length [] = refl
all_length (r ∷ rs) = length-append (record_bytes r) (all_bytes rs) ∙ omega (arith, record_length r, all_length rs)

pub records_length : (n : ℕ) (bs : List ℕ) → length (records_of n bs) ≡ n
unfolding records_of
records_length zero bs = refl
records_length (suc n) bs = ap suc (records_length n (drop record_size bs))

pub records_back : (rs : List Record) (bs more : List ℕ) → AllRecordable rs → bs ≡ all_bytes rs ++ more → (records_of (length rs) bs ≡ rs) × (drop (record_size * length rs) bs ≡ more)
unfolding all_bytes records_of AllRecordable
records_back [] bs more k e = (refl, e)
records_back (r ∷ rs) bs more k e =
    let first = record_back r bs (all_bytes rs ++ more) k.0 (e ∙ append_assoc (record_bytes r) (all_bytes rs) more) in
    let others = records_back rs (drop record_size bs) more k.1 first.1 in
    let size : record_size * suc (length rs) ≡ record_size + record_size * length rs = omega arith in
    (λ i. first.0 i ∷ others.0 i, rw (size, ← drop-drop (record_size * length rs) record_size bs) others.1)

pub records_again : (n : ℕ) (bs : List ℕ) → Bytes bs → record_size * n ≤ length bs → all_bytes (records_of n bs) ≡ take (record_size * n) bs
unfolding all_bytes records_of
records_again zero bs low long = refl
records_again (suc n) bs low long =
    let others = records_again n (drop record_size bs) (drop_low record_size bs low) (omega (arith, length-drop record_size bs)) in
    let size : record_size * suc n ≡ record_size + record_size * n = omega arith in
    rw (record_again bs low (omega arith), others, size) (sym (take-add record_size (record_size * n) bs))

-- What holds of each record that has room holds of all of them.
pub every_holds : {f : Record → Bool} → ((r : Record) → Recordable r → f r ≡ true) → (rs : List Record) → AllRecordable rs → every f rs ≡ true
unfolding AllRecordable
every_holds holds [] k = refl
every_holds holds (r ∷ rs) k = rw (holds r k.0) (every_holds holds rs k.1)

-- Records that bytes say have room in them, where the reader's tests hold.
pub records_fit
    : (n : ℕ) (bs : List ℕ)
    → Bytes bs
    → record_size * n ≤ length bs
    → every known (records_of n bs) ≡ true
    → every spare (records_of n bs) ≡ true
    → AllRecordable (records_of n bs)
unfolding records_of AllRecordable
records_fit zero bs low long verbs spares = tt
records_fit (suc n) bs low long verbs spares =
    let behind = drop record_size bs in
    let v = (and-eq-true_iff (known (record_of bs)) (every known (records_of n behind))).0 verbs in
    let s = (and-eq-true_iff (spare (record_of bs)) (every spare (records_of n behind))).0 spares in (
      record_fits bs low (omega arith) v.0 s.0,
      records_fit n behind (drop_low record_size bs low) (omega (arith, length-drop record_size bs)) v.1 s.1,
    )
