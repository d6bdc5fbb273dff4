-- Numbers in bytes: back and forth, and byte by byte. Assumes nothing.
use mathlib.Core.Path.{◌≡◌, refl, ap, sym, ◌∙◌}
use mathlib.Core.List.{List, [], ◌∷◌, ◌++◌, append_assoc, append-nil}
use Prim.Native.Nat.{ℕ, zero, suc, ◌+◌, ◌-◌, ◌*◌, ◌/◌, ◌%◌, ◌^◌, ◌≤◌, ◌<◌}
use native.Mathlib.Numerals.{add-one, unary_clauses}
use native.Mathlib.Nat.{zero-add, pow-suc, pow-le-pow_right}
use native.Mathlib.Omega.{arith}
use lib.ListN.{length, get_or, take, drop, set, length-append, length-drop, length-set, take-append-drop}
use lib.Seq.{length-take-le, drop-cons, take-add, take_at, drop_at, drop-drop, get_or-drop, take-set-le, drop-set-lt, get_or-set_same}
use Rattle.kernel.specs.Channels.{over}
use Rattle.big_endian.specs.BigEndian.{from, value, bytes, part}

-- ---- a part

-- It has its length.
pub part_length : (at n : ℕ) (l : List ℕ) → at + n ≤ length l → length (part at n l) ≡ n
part_length at n l inside = length-take-le n (drop at l) (omega (arith, length-drop at l))

-- A part that is not empty begins with the byte at its place.
pub part_first : (at n : ℕ) (l : List ℕ) → 0 < n → at < length l → part at n l ≡ get_or l at 0 ∷ part (at + 1) (n - 1) l
part_first at zero l some inside = absurd (omega arith)
part_first at (suc n) l some inside = let e : suc n - 1 ≡ n = omega arith in rw (add-one at, drop-cons l at 0 inside, e)

-- So do the bytes of a part from the i-th on.
pub part_next : (l : List ℕ) (at n i : ℕ) → i < n → at + n ≤ length l → part (at + i) (n - i) l ≡ get_or l (at + i) 0 ∷ part (at + (i + 1)) (n - (i + 1)) l
part_next l at n i more inside =
    let e : at + (i + 1) ≡ at + i + 1 = omega arith in
    let f : n - (i + 1) ≡ n - i - 1 = omega arith in
    rw (e, f) (part_first (at + i) (n - i) l (omega arith) (omega arith))

-- ---- widths

pub bytes_length : (k n : ℕ) → length (bytes k n) ≡ k
unfolding bytes
bytes_length zero n = refl
bytes_length (suc k) n = length-append (bytes k (n / 256)) (n % 256 ∷ []) ∙ omega (arith, bytes_length k (n / 256))

-- ---- back and forth

from_last : (n : ℕ) (bs : List ℕ) (b : ℕ) → from n (bs ++ (b ∷ [])) ≡ from n bs * 256 + b
unfolding from
from_last n [] b = refl
from_last n (c ∷ bs) b = from_last (n * 256 + c) bs b

-- **says**: the bytes of a number say it, where they have room for it.
pub says : (k n : ℕ) → n < 256 ^ k → value (bytes k n) ≡ n
unfolding bytes from
says zero n l = omega arith
says (suc k) n l =
    from_last 0 (bytes k (n / 256)) (n % 256)
    ∙ ap (λ (x : ℕ). x * 256 + n % 256) (says k (n / 256) (omega arith))
    ∙ omega arith

-- One byte more, and what it has room for.
pub grows : (i v b : ℕ) → v < 256 ^ i → b < 256 → v * 256 + b < 256 ^ (i + 1)
grows i v b l m = rw (add-one i, pow-suc 256 i) (omega arith)

pub has_room : (i v : ℕ) → v < 256 ^ i → i < 4 → v < 256 ^ 3
has_room i v l m = omega (arith, pow-le-pow_right {n = 256} (omega arith) {i = i} {j = 3} (omega arith))

-- One byte says itself.
pub one_byte : (l : List ℕ) (at : ℕ) → at < length l → value (part at 1 l) ≡ get_or l at 0
unfolding from
one_byte l at inside = rw (part_first at 1 l (omega arith) inside) (omega arith)

-- Of the bytes of a part that are still to be read one is.
pub one_read : (l : List ℕ) (at n v i : ℕ) → i < n → at + n ≤ length l
    → from (v * 256 + get_or l (at + i) 0) (part (at + (i + 1)) (n - (i + 1)) l) ≡ from v (part (at + i) (n - i) l)
unfolding from
one_read l at n v i more inside = sym (ap (from v) (part_next l at n i more inside))

-- ---- written from the last byte on

-- No bytes.
pub over_none : (l : List ℕ) (at : ℕ) → over l at [] ≡ l
over_none l at = simp unary_clauses (take-append-drop at l)

-- Bytes from a place on, and one behind them: the last may be written first.
over_last : (l : List ℕ) (at : ℕ) (bs : List ℕ) (b : ℕ) → at + length bs < length l → over l at (bs ++ (b ∷ [])) ≡ over (set l (at + length bs) b) at bs
over_last l at bs b inside =
    let k = at + length bs in
    let size : at + length (bs ++ (b ∷ [])) ≡ suc k = omega (arith, length-append bs (b ∷ [])) in
    let behind : drop k (set l k b) ≡ b ∷ drop (suc k) l =
    drop-cons (set l k b) k 0 (omega (arith, length-set l k b)) ∙ (λ i. get_or-set_same l k b 0 inside i ∷ drop-set-lt (suc k) l k b (omega arith) i) in
    rw (size, append_assoc bs (b ∷ []) (drop (suc k) l), take-set-le at l k b (omega arith), behind)

-- Of i + 1 bytes that are still to be written one is, and then i are.
pub one_written : (l : List ℕ) (at i v : ℕ) → at + i < length l → over (set l (at + i) (v % 256)) at (bytes i (v / 256)) ≡ over l at (bytes (i + 1) v)
unfolding bytes
one_written l at i v inside = rw (add-one i, over_last l at (bytes i (v / 256)) (v % 256) (omega (arith, bytes_length i (v / 256))), bytes_length i (v / 256))

-- ---- what bytes say

-- Each is below 256.
abbrev pub Low : List ℕ → Type 0
Low bs = (i : ℕ) → get_or bs i 0 < 256

-- Behind k bytes of n: together they are the bytes of what they say.
from_bytes : (k n : ℕ) (bs : List ℕ) → Low bs → bytes (k + length bs) (from n bs) ≡ bytes k n ++ bs
unfolding bytes from
from_bytes k n [] low = simp unary_clauses (sym (append-nil (bytes k n)))
from_bytes k n (b ∷ bs) low =
    let size : k + suc (length bs) ≡ suc k + length bs = omega arith in
    let upper : (n * 256 + b) / 256 ≡ n = omega (arith, low 0) in
    let lower : (n * 256 + b) % 256 ≡ b = omega (arith, low 0) in
    rw (size, from_bytes (suc k) (n * 256 + b) bs (λ i. low (suc i)), upper, lower) (append_assoc (bytes k n) (b ∷ []) bs)

-- **said**: the bytes of the number that bytes say are these bytes.
pub said : (bs : List ℕ) → Low bs → bytes (length bs) (value bs) ≡ bs
unfolding bytes
said bs low = rw zero-add at (from_bytes 0 0 bs low)

from_fits : (k n : ℕ) (bs : List ℕ) → Low bs → n < 256 ^ k → from n bs < 256 ^ (k + length bs)
unfolding from
from_fits k n [] low l = simp unary_clauses l
from_fits k n (b ∷ bs) low l =
    let size : k + suc (length bs) ≡ k + 1 + length bs = omega arith in
    rw size (from_fits (k + 1) (n * 256 + b) bs (λ i. low (suc i)) (grows k n b l (low 0)))

-- It has room in so many.
pub value_fits : (bs : List ℕ) → Low bs → value bs < 256 ^ length bs
value_fits bs low = rw zero-add at (from_fits 0 0 bs low (omega arith))

-- ---- parts one behind the other

-- Two parts that meet are one.
pub parts_join : (at n m : ℕ) (l : List ℕ) → part at n l ++ part (at + n) m l ≡ part at (n + m) l
parts_join at n m l = rw (take-add n m (drop at l), drop-drop n at l)

-- A number stands at a place, and behind it the rest.
pub record Reads (at k n : ℕ) (l rest : List ℕ) : Type 0 where
  pub number : value (part at k l) ≡ n
  pub behind : drop (at + k) l ≡ rest

pub reads : (l : List ℕ) (at k n : ℕ) {rest : List ℕ} → n < 256 ^ k → drop at l ≡ bytes k n ++ rest → Reads at k n l rest
reads l at k n {rest} room here =
    let size = bytes_length k n in
    record {
      number = rw (here, take_at (bytes k n) rest k size) (says k n room);
      behind = sym (drop-drop k at l) ∙ ap (drop k) here ∙ drop_at (bytes k n) rest k size;
    }

pub take_low : (n : ℕ) (l : List ℕ) → Low l → Low (take n l)
take_low zero l low i = omega arith
take_low (suc n) [] low i = omega arith
take_low (suc n) (b ∷ l) low zero = low 0
take_low (suc n) (b ∷ l) low (suc i) = take_low n l (λ j. low (suc j)) i

pub drop_low : (n : ℕ) (l : List ℕ) → Low l → Low (drop n l)
drop_low n l low i = rw get_or-drop (low (n + i))

-- A part says a number that has room in it, and whose bytes it is.
module _ (l : List ℕ) (low : Low l) (at n : ℕ) (inside : at + n ≤ length l) where
  part_low : Low (part at n l)
  part_low = take_low n (drop at l) (drop_low at l low)

  pub part_fits : value (part at n l) < 256 ^ n
  part_fits = rw (part_length at n l inside) at (value_fits (part at n l) part_low)

  pub part_said : bytes n (value (part at n l)) ≡ part at n l
  part_said = ap (λ (k : ℕ). bytes k (value (part at n l))) (sym (part_length at n l inside)) ∙ said (part at n l) part_low

  -- With the part behind it.
  pub said_before : (m : ℕ) {rest : List ℕ} → rest ≡ part (at + n) m l → bytes n (value (part at n l)) ++ rest ≡ part at (n + m) l
  said_before m next = rw (part_said, next) (parts_join at n m l)
