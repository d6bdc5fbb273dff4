-- A signed number, below 0 and not: what the code asks of it, and its text. Assumes nothing.
use mathlib.Core.Path.{◌≡◌, refl, ap}
use mathlib.Core.Bool.{true, false}
use mathlib.Core.List.{◌++◌}
use Prim.Native.Nat.{ℕ, suc, ◌+◌, ◌-◌, ◌^◌, ◌≤◌, ◌<◌}
use native.Mathlib.Numerals.{add-one}
use native.Mathlib.Omega.{arith}
use lib.Dec.{T}
use lib.IntN.{ℤ, pos, negsuc, nat_abs, ◌-ℤ◌}
use lib.ListN.{length}
use lib.Signed.{lt_z, non_neg}
use borrow.Author.Rules.{sfits_of, Fits-under}
use borrow.Author.Tests.{ltb-true, le-ltb}
use mir.Facts.{to_z-of_z}
use mir.Syntax.{w64}
use mir.Val.{Fits, SFits, to_z, of_z}
use Rattle.text.specs.Text.{bytes, decimal, number, longest_number}
use Rattle.text.proofs.Digits.{short}

-- No number is longer than the room for one.
pub number_short : (n : ℤ) → SFits w64 n → length (number n) ≤ longest_number
number_short (pos x) f = let l = f.sfits in omega (arith, short x 18 (omega arith) (omega arith))
number_short (negsuc x) f = let l = f.sfits in omega (arith, short (suc x) 18 (omega arith) (omega arith))

-- z may be taken for a number without a sign.
abbrev Unsigned : ℤ → Type 0
Unsigned z = T (non_neg z) × Fits w64 (nat_abs z)

unsigned : {z : ℤ} {x : ℕ} → z ≡ pos x → x < 2 ^ 63 → Unsigned z
unsigned {z} {x} e l = rw e (tt, Fits-under w64 x (2 ^ 63) l tt)

-- -1 - z, read off its bits.
abbrev pub below_0 : ℤ → ℤ
below_0 z = to_z w64 (of_z w64 (negsuc 0 -ℤ z))

-- n, which the code reads off its bits as z, is below 0.
pub record Below (n z : ℤ) : Type 0 where
  pub left : ℕ
  pub is : n ≡ negsuc left
  pub read : below_0 z ≡ pos left
  pub sub : SFits w64 (negsuc 0 -ℤ z)
  pub cast : Unsigned (below_0 z)
  pub add : Fits w64 (nat_abs (below_0 z) + 1)
  pub text : number n ≡ bytes "-" ++ decimal (nat_abs (below_0 z) + 1)

pub below : (n : ℤ) {z : ℤ} → z ≡ n → SFits w64 n → lt_z z (pos 0) ≡ true → Below n z
below (pos x) e f t = absurd (let h : x < 0 = ltb-true x 0 (rw e at t) in omega arith)
below (negsuc x) {z} e f t =
    let l = f.sfits in
    let back : suc x - 1 ≡ x = omega arith in
    let is : negsuc 0 -ℤ z ≡ pos x = rw (e, le-ltb (suc x) 1 (omega arith)) (ap pos back) in
    let read : below_0 z ≡ pos x = rw is (to_z-of_z {w = w64} (sfits_of l)) in
    record {
      left = x;
      is = refl;
      read = read;
      sub = rw is (sfits_of l);
      cast = unsigned read l;
      add = rw read (Fits-under w64 (x + 1) (2 ^ 64) (omega arith) tt);
      text = rw (read, add-one);
    }

-- And where it is not.
pub record Above (n z : ℤ) : Type 0 where
  pub above : ℕ
  pub is : n ≡ pos above
  pub read : z ≡ pos above
  pub cast : Unsigned z
  pub text : number n ≡ decimal (nat_abs z)

pub above : (n : ℤ) {z : ℤ} → z ≡ n → SFits w64 n → lt_z z (pos 0) ≡ false → Above n z
above (pos x) e f t = record { above = x; is = refl; read = e; cast = unsigned e f.sfits; text = rw e }
above (negsuc x) e f t = absurd (let s = rw e at t in let w : ◌≡◌ {A = ℕ} 0 1 = cc in omega arith)
