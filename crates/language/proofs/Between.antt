-- Whether a number stands between two others, tested. Assumes nothing.
use mathlib.Core.Path.{◌≡◌, refl}
use mathlib.Core.Bool.{Bool, true, false, ◌&&◌, and-eq-true_iff}
use Prim.Native.Nat.{ℕ, ◌≤◌}
use lib.Dec.{leb}
use borrow.Author.Tests.{leb-true, le-leb}

module _ (low n high : ℕ) where
  pub between : leb low n && leb n high ≡ true → (low ≤ n) × (n ≤ high)
  between e = let both = (and-eq-true_iff (leb low n) (leb n high)).0 e in (leb-true low n both.0, leb-true n high both.1)

  pub inside : (low ≤ n) × (n ≤ high) → leb low n && leb n high ≡ true
  inside h = rw (le-leb low n h.0, le-leb n high h.1)

  pub outside : ((low ≤ n) × (n ≤ high) → ⊥) → leb low n && leb n high ≡ false
  outside h = go (leb low n && leb n high) refl
    where
      go : (t : Bool) → leb low n && leb n high ≡ t → t ≡ false
      go true e = absurd (h (between e))
      go false e = refl
