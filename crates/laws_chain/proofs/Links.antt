-- A link and the task that it leads to. Assumes nothing.
use mathlib.Core.Path.{◌≡◌, refl}
use mathlib.Core.Bool.{true, false}
use Prim.Native.Nat.{ℕ, ◌<◌}
use native.Mathlib.Omega.{arith}
use lib.IntN.{ℤ, pos, negsuc, nat_abs}
use lib.Signed.{lt_z, non_neg}
use lib.Dec.{T}
use borrow.Author.Tests.{ltb-true}
use Rattle.laws_chain.specs.Chain.{target}

-- A link is told by its sign.
pub below_zero : (n : ℕ) (link : ℤ) → lt_z link (pos 0) ≡ true → n ≡ target n link
below_zero n (pos x) e = absurd (let h : x < 0 = ltb-true x 0 e in omega arith)
below_zero n (negsuc m) e = refl

pub not_below_zero : (n : ℕ) (link : ℤ) → lt_z link (pos 0) ≡ false → T (non_neg link) × (nat_abs link ≡ target n link)
not_below_zero n (pos x) e = (tt, refl)
not_below_zero n (negsuc m) e = absurd (let w : ◌≡◌ {A = ℕ} 0 1 = cc in omega arith)

pub leads : (n : ℕ) (link : ℤ) → target n link < n → link ≡ pos (target n link)
leads n (pos x) h = refl
leads n (negsuc m) h = absurd (omega arith)
