-- Bytes that are written one behind the other. Assumes nothing.
use mathlib.Core.Path.{◌≡◌, ◌∙◌}
use mathlib.Core.List.{List, ◌++◌, append_assoc}
use Prim.Native.Nat.{ℕ, ◌+◌, ◌≤◌}
use native.Mathlib.Omega.{arith}
use lib.ListN.{length, take, drop, length-append, take-append-drop}
use lib.Seq.{length-take-le, drop-drop, take_at, drop_at}
use Rattle.kernel.specs.Channels.{over}
use Rattle.big_endian.specs.BigEndian.{bytes, part}
use Rattle.big_endian.proofs.Bytes.{part_length, bytes_length}

-- w is m with these n bytes from a on.
pub record Filled (m : List ℕ) (a n : ℕ) (xs w : List ℕ) : Type 0 where
  pub size : length xs ≡ n
  pub is : w ≡ over m a xs

pub number : {m w : List ℕ} {a : ℕ} (k v : ℕ) → w ≡ over m a (bytes k v) → Filled m a k (bytes k v) w
number k v e = record { size = bytes_length k v; is = e }

module _ {m xs w : List ℕ} {a n : ℕ} (fits : a ≤ length m) (f : Filled m a n xs w) where
  pub whole : w ≡ (take a m ++ xs) ++ drop (a + n) m
  whole = f.is ∙ rw (f.size, append_assoc)

  front : length (take a m ++ xs) ≡ a + n
  front = length-append (take a m) xs ∙ rw (length-take-le a m fits, f.size)

  pub first : take (a + n) w ≡ take a m ++ xs
  first = rw (whole, take_at (take a m ++ xs) (drop (a + n) m) (a + n) front)

  behind : drop (a + n) w ≡ drop (a + n) m
  behind = rw (whole, drop_at (take a m ++ xs) (drop (a + n) m) (a + n) front)

  -- More bytes.
  pub more : {u : List ℕ} (k : ℕ) (ys : List ℕ) → length ys ≡ k → u ≡ over w (a + n) ys → Filled m a (n + k) (xs ++ ys) u
  more k ys long e =
      let size : length (xs ++ ys) ≡ n + k = length-append xs ys ∙ rw (f.size, long) in
      let place : a + n + k ≡ a + (n + k) = omega arith in
      record {
        size = size;
        is = e ∙ rw (long, first, ← drop-drop k (a + n) w, behind, drop-drop k (a + n) m, place, size) (simp append_assoc);
      }

  pub and_number : {u : List ℕ} (k v : ℕ) → u ≡ over w (a + n) (bytes k v) → Filled m a (n + k) (xs ++ bytes k v) u
  and_number k v e = more k (bytes k v) (bytes_length k v) e

  -- So many bytes that are left as they are.
  pub left : (k : ℕ) → a + n + k ≤ length m → Filled m a (n + k) (xs ++ part (a + n) k m) w
  left k inside =
      let size : length (xs ++ part (a + n) k m) ≡ n + k = length-append xs (part (a + n) k m) ∙ rw (f.size, part_length (a + n) k m inside) in
      let place : a + (n + k) ≡ a + n + k = omega arith in
      record { size = size; is = whole ∙ rw (size, place, ← drop-drop k (a + n) m) (simp (append_assoc, take-append-drop)) }
