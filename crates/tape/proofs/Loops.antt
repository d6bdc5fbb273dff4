-- The bytes and the records of a block, one by one. Assumes nothing.
use mathlib.Core.Path.{◌≡◌, refl}
use mathlib.Core.Bool.{Bool}
use mathlib.Core.List.{List}
use Prim.Native.Nat.{ℕ, zero, suc, ◌+◌, ◌*◌, ◌≤◌, ◌<◌}
use native.Mathlib.Numerals.{add-one}
use native.Mathlib.Omega.{arith}
use native.Mathlib.Nat.{mul-le-mul}
use lib.ListN.{length, get_or, take, drop}
use lib.Seq.{length-take-le, drop-cons, drop-drop}
use Rattle.std.specs.List.{list_all, range_with_len}
use Rattle.big_endian.proofs.Bytes.{Low, take_low}
use Rattle.tape.specs.declared.Record.{Record}
use Rattle.tape.specs.Block.{record_size, check_at, record_at, weighed}
use Rattle.tape.specs.Reader.{record_of, records_of, every}

-- ---- the check

pub weighed_next : (bs : List ℕ) (w i : ℕ) → i < length bs → weighed w (drop i bs) ≡ w * get_or bs i 0 + weighed (w + 1) (drop (i + 1) bs)
unfolding weighed
weighed_next bs w i more = rw (add-one i, add-one w, drop-cons bs i 0)

-- A weight x a byte, of which u32 has room for 510.
pub product_small : (b : List ℕ) (i : ℕ) → Low b → check_at ≤ length b → i < length (take check_at b) → (i + 1) * get_or (take check_at b) i 0 ≤ 130050
product_small b i low long more =
    let size = length-take-le check_at b long in
    mul-le-mul {n₁ = i + 1} {m₁ = get_or (take check_at b) i 0} {n₂ = 510} {m₂ = 255} (omega arith) (omega (arith, take_low check_at b low i))

-- ---- a test of each record

-- At the places of n records from the i-th on, one behind the other.
pub at_places : (f : Record → Bool) (b : List ℕ) (n i : ℕ) → list_all (λ j. f (record_of (drop (record_at j) b))) (range_with_len i n) ≡ every f (records_of n (drop (record_at i) b))
unfolding records_of
at_places f b zero i = refl
at_places f b (suc n) i =
    let place : record_at i + record_size ≡ record_at (i + 1) = omega arith in
    rw (drop-drop record_size (record_at i) b, place, at_places f b n (i + 1))
