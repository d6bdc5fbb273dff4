-- The walk along next links, step by step, whatever the links are. Assumes nothing.
use mathlib.Core.Path.{◌≡◌, refl}
use mathlib.Core.List.{[], ◌∷◌}
use Prim.Native.Nat.{ℕ, zero, suc, ◌≤◌, ◌<◌}
use lib.IntN.{ℤ}
use borrow.Author.Tests.{lt-ltb, le-ltb}
use Rattle.laws_chain.specs.Chain.{target, walk}

module _ (n : ℕ) (next : ℕ → ℤ) where
  -- It stops at a link that leads to no task.
  pub walk_none : (most : ℕ) (head : ℤ) → n ≤ target n head → walk n next most head ≡ []
  unfolding walk
  walk_none zero head h = refl
  walk_none (suc most) head h = rw (le-ltb (target n head) n h, walk) refl

  pub walk_some : (most : ℕ) (head : ℤ) → target n head < n → walk n next (suc most) head ≡ target n head ∷ walk n next most (next (target n head))
  unfolding walk
  walk_some most head h = rw (lt-ltb (target n head) n h, walk) refl
