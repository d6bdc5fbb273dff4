-- What it says of numbers that they are inside their sizes. Assumes nothing.
use mathlib.Core.Path.{◌≡◌}
use mathlib.Core.Bool.{true, and-eq-true_iff}
use Prim.Native.Nat.{ℕ, ◌≤◌}
use lib.Dec.{leb}
use borrow.Author.Tests.{leb-true}
use Rattle.kernel.specs.Sizes.{within, fitting, longest_period}

pub from_to : (a n b : ℕ) → within a n b ≡ true → (a ≤ n) × (n ≤ b)
from_to a n b e = let t = (and-eq-true_iff (leb a n) (leb n b)).0 e in (leb-true a n t.0, leb-true n b t.1)

-- Period and cost.
pub record Sizes (p c : ℕ) : Type 0 where
  pub some_period : 1 ≤ p
  pub short_period : p ≤ longest_period
  pub some_cost : 1 ≤ c
  pub cost_within : c ≤ p

pub sizes : {p c : ℕ} → fitting p c ≡ true → Sizes p c
unfolding fitting
sizes {p} {c} e =
    let both = (and-eq-true_iff (within 1 p longest_period) (within 1 c p)).0 e in
    let period = from_to 1 p longest_period both.0 in
    let cost = from_to 1 c p both.1 in
    record { some_period = period.0; short_period = period.1; some_cost = cost.0; cost_within = cost.1 }
