-- The numbers that are answered fit an i64. Assumes nothing.
use mathlib.Core.Path.{◌≡◌, refl, ◌∙◌}
use mathlib.Core.Bool.{Bool, true, false, cond}
use Prim.Native.Nat.{ℕ, zero, suc, ◌+◌, ◌-◌, ◌≤◌, ◌<◌}
use native.Mathlib.Omega.{arith}
use lib.IntN.{pos, negsuc, ◌-ℤ◌}
use lib.Dec.{ltb}
use lib.Signed.{mag}
use mir.Facts.{to_z_pos, to_z-of_z}
use mir.Syntax.{w64}
use mir.Val.{to_z, of_z, SFits}
use borrow.Author.Rules.{sfits_of}
use Rattle.kernel.specs.declared.Status.{Status}
use Rattle.kernel.specs.declared.Status.TheVariants.{Free, Sleep, Exe, Ready, Idle, Zombie, Wait}
use Rattle.kernel.specs.Status.{ZOMBIE, status_number}

status_most : (a : Status) → status_number a ≤ ZOMBIE
status_most Free = omega arith
status_most Ready = omega arith
status_most Exe = omega arith
status_most Sleep = omega arith
status_most Idle = omega arith
status_most (Wait s) = omega arith
status_most Zombie = omega arith

pub status_small : (n : ℕ) (a : Status) → n ≡ status_number a → n < 9223372036854775808
status_small n a e = omega (arith, status_most a)

-- A difference lies no farther from 0 than the sum.
difference : (a b : ℕ) → mag (pos a -ℤ pos b) ≤ a + b
difference a zero = omega arith
difference a (suc b) = go (ltb a (suc b))
  where
    go : (below : Bool) → mag (cond below (negsuc (suc b - suc a)) (pos (a - suc b))) ≤ a + suc b
    go true = omega arith
    go false = omega arith

-- The machine's difference of two 32-bit numbers is exact.
module _ (a b : ℕ) (la : a < 4294967296) (lb : b < 4294967296) where
  bits : to_z w64 a -ℤ to_z w64 b ≡ pos a -ℤ pos b
  bits =
      let left : to_z w64 a ≡ pos a = to_z_pos w64 (omega arith) in
      let right : to_z w64 b ≡ pos b = to_z_pos w64 (omega arith) in
      rw (left, right) refl

  pub difference_fits : SFits w64 (to_z w64 a -ℤ to_z w64 b)
  difference_fits = rw bits (sfits_of (omega (arith, difference a b)))

  pub difference_exact : to_z w64 (of_z w64 (to_z w64 a -ℤ to_z w64 b)) ≡ pos a -ℤ pos b
  difference_exact = to_z-of_z difference_fits ∙ bits
