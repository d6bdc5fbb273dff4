-- The digits of a number, read from the first on. Assumes nothing.
use mathlib.Core.Path.{◌≡◌, ◌∙◌}
use mathlib.Core.List.{List, ◌∷◌}
use Prim.Native.Nat.{ℕ, ◌+◌, ◌-◌, ◌*◌, ◌^◌, ◌<◌, ◌≤◌}
use native.Mathlib.Nat.{pow-suc, lt_of_lt_of_le, pow-le-pow_right}
use native.Mathlib.Numerals.{add-one}
use native.Mathlib.Omega.{arith}
use lib.Dec.{lit<}
use lib.ListN.{length, get_or, drop, drop_of_length-le}
use lib.Seq.{drop-cons}
use Rattle.std.proofs.Common.{Some, None}
use Rattle.language.specs.Language.{Digit}
use Rattle.language.specs.Meaning.{number_from, number_of}
use Rattle.language.proofs.Between.{inside, outside}

-- The first i of these digits spell n.
pub record Read (ds : List ℕ) (i n : ℕ) : Type 0 where
  pub within : i ≤ length ds
  pub few : length ds ≤ 10
  pub small : n < 10 ^ i
  pub left : number_of ds ≡ number_from n (drop i ds)

module _ (ds : List ℕ) where
  pub unsized : ((1 ≤ length ds) × (length ds ≤ 10) → ⊥) → None ≡ number_of ds
  unfolding number_of
  unsized h = rw (outside 1 (length ds) 10 h)

  pub begins : (1 ≤ length ds) × (length ds ≤ 10) → Read ds 0 0
  unfolding number_of
  begins h = record { within = omega arith; few = h.1; small = omega arith; left = rw (inside 1 (length ds) 10 h) }

module _ {ds : List ℕ} {i n : ℕ} (read : Read ds i n) where
  pub ends : length ds ≤ i → Some n ≡ number_of ds
  unfolding number_from
  ends l = rw (read.left, drop_of_length-le ds l)

  module _ (more : i < length ds) where
    next : drop i ds ≡ get_or ds i 0 ∷ drop (i + 1) ds
    next = rw (add-one, drop-cons ds i 0)

    pub room : n < 1000000000
    room = let most : i ≤ 9 = omega (arith, read.few) in lt_of_lt_of_le read.small (pow-le-pow_right {n = 10} (lit< tt) most)

    pub stops : (Digit (get_or ds i 0) → ⊥) → None ≡ number_of ds
    unfolding number_from
    stops h = rw (read.left, next, outside 48 (get_or ds i 0) 57 h)

    pub goes_on : Digit (get_or ds i 0) → Read ds (i + 1) (n * 10 + (get_or ds i 0 - 48))
    unfolding number_from
    goes_on h =
        record {
          within = omega arith;
          few = read.few;
          small = rw (add-one, pow-suc) (omega (arith, read.small, h));
          left = read.left ∙ rw (next, inside 48 (get_or ds i 0) 57 h);
        }
