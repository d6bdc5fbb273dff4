-- The digits of a number, one after the other. Assumes nothing.
use mathlib.Core.Path.{◌≡◌, refl, subst}
use mathlib.Core.Bool.{Bool, true, false, cond}
use mathlib.Core.List.{List, [], ◌∷◌, ◌++◌}
use Prim.Native.Nat.{ℕ, zero, suc, ◌+◌, ◌-◌, ◌/◌, ◌%◌, ◌^◌, ◌≤◌, ◌<◌}
use native.Mathlib.Nat.{pow-suc, one-le-pow, lt_of_lt_of_le, pow-le-pow_right}
use native.Mathlib.Omega.{arith}
use lib.Dec.{ltb}
use lib.ListN.{length, length-append}
use borrow.Author.Tests.{ltb-true, ltb-false, lt-ltb}
use Rattle.io.specs.Digits as Digits
use Rattle.io.specs.Digits.{IsDigitCount}
use Rattle.text.specs.Text.{digits, decimal}

-- What holds of one digit, and of one more digit behind others, holds of every number's digits.
abbrev pub One : (ℕ → List ℕ → Type 0) → Type 0
One P = (n : ℕ) → n < 10 → P n ((48 + n) ∷ [])

abbrev pub More : (ℕ → List ℕ → Type 0) → Type 0
More P = (n : ℕ) (ds : List ℕ) → 10 ≤ n → P (n / 10) ds → P n (ds ++ ((48 + n % 10) ∷ []))

fewer : (k n : ℕ) → n < 10 ^ suc (suc k) → n / 10 < 10 ^ suc k
fewer k n h = let p = rw pow-suc at h in omega arith

pub by_digits : (P : ℕ → List ℕ → Type 0) → One P → More P → (f n : ℕ) → n < 10 ^ suc f → P n (digits f n)
unfolding digits
by_digits P one more zero n h = let same : n ≡ n % 10 = omega arith in subst (λ (d : ℕ). P n ((48 + d) ∷ [])) same (one n h)
by_digits P one more (suc f) n h = step (by_digits P one more f (n / 10) (fewer f n h)) (ltb n 10) refl
  where
    step : P (n / 10) (digits f (n / 10)) → (t : Bool) → ltb n 10 ≡ t → P n (cond t ((48 + n) ∷ []) (digits f (n / 10) ++ ((48 + n % 10) ∷ [])))
    step rest true e = one n (ltb-true n 10 e)
    step rest false e = more n (digits f (n / 10)) (ltb-false n 10 e) rest

-- io spells the same digits, if it spells as many as the number has.
abbrev Same : ℕ → List ℕ → Type 0
Same n ds = (k : ℕ) → n < 10 ^ suc k → (1 ≤ k → 10 ^ k ≤ n) → Digits.last_digits 10 (suc k) n ≡ ds

same_one : One Same
same_one n h zero u l = let d : n % 10 ≡ n = omega arith in rw (lt-ltb (n % 10) 10 (omega arith), d)
same_one n h (suc k) u l = absurd (let p = rw pow-suc at (l (omega arith)) in omega (arith, one-le-pow k 10 (omega arith)))

same_more : More Same
same_more n ds h rest zero u l = absurd (omega arith)
same_more n ds h rest (suc k) u l =
    let p = rw pow-suc at (l (omega arith)) in
    rw (lt-ltb (n % 10) 10 (omega arith), rest k (fewer k n u) (λ q. omega arith))

pub spelled : (n k : ℕ) → n < 10 ^ 20 → IsDigitCount 10 1 n k → Digits.last_digits 10 k n ≡ decimal n
spelled n zero small h = absurd (omega arith)
spelled n (suc k) small h =
    let e : suc k - 1 ≡ k = omega arith in
    by_digits Same same_one same_more 19 n small k h.1 (λ q. rw e at (h.2 (omega arith)))

-- A number below 10^(k + 1) has at most k + 1 digits.
abbrev Short : ℕ → List ℕ → Type 0
Short n ds = (k : ℕ) → n < 10 ^ suc k → length ds ≤ suc k

short_more : More Short
short_more n ds h rest zero u = absurd (omega arith)
short_more n ds h rest (suc k) u = rw length-append (omega (arith, rest k (fewer k n u)))

pub short : (n k : ℕ) → k ≤ 19 → n < 10 ^ suc k → length (decimal n) ≤ suc k
short n k m u =
    let small : n < 10 ^ 20 = lt_of_lt_of_le u (pow-le-pow_right {n = 10} (omega arith) {i = suc k} {j = 20} (omega arith)) in
    by_digits Short (λ n h k u. omega arith) short_more 19 n small k u
