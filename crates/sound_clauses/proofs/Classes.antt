-- What a class is, by its cases. Assumes nothing.
use mathlib.Core.Path.{◌≡◌, ap}
use mathlib.Core.Bool.{true}
use mathlib.Core.Logic.{◌↔◌}
use Prim.Native.Nat.{ℕ}
use native.Mathlib.Omega.{arith}
use lib.Dec.{eqb}
use Rattle.kernel.specs.declared.Class.TheVariants.{Nrt, Hard}
use Rattle.kernel.proofs.Decided.{means, equal}

same_priority : {p q : ℕ} → Nrt p ≡ Nrt q → p ≡ q
same_priority e = cc

pub nrt_equal : (p q : ℕ) → (eqb p q ≡ true) ↔ (Nrt p ≡ Nrt q)
nrt_equal p q = means (equal p q) (ap Nrt) same_priority

pub hard_not_nrt : (p c q : ℕ) → Hard p c ≡ Nrt q → ⊥
hard_not_nrt p c q e = let z : ◌≡◌ {A = ℕ} 0 1 = cc in omega arith
