-- A decimal is right, however it is made: it is read back as its number, has no zero in front, and every byte of it is a digit. Assumes nothing.
use mathlib.Core.Path.{◌≡◌, refl}
use mathlib.Core.Logic.{⊎_elim}
use mathlib.Core.List.Memᴰ
use mathlib.Core.List.{List, [], ◌∷◌, ◌++◌, Memᴰ}
use Prim.Native.Nat.{ℕ, ◌+◌, ◌-◌, ◌*◌, ◌%◌, ◌^◌, ◌≤◌, ◌<◌}
use native.Mathlib.Omega.{arith}
use lib.ListN.{get_or}
use Rattle.text.specs.Text.{decimal, value}
use Rattle.text.proofs.Digits.{One, More, by_digits}

-- One more digit: ten times what the others say, and the digit.
behind : (m : ℕ) (ds : List ℕ) (b : ℕ) → value m (ds ++ (b ∷ [])) ≡ value m ds * 10 + (b - 48)
unfolding value
behind m [] b = refl
behind m (d ∷ ds) b = behind (m * 10 + (d - 48)) ds b

abbrev Reads : ℕ → List ℕ → Type 0
Reads n ds = value 0 ds ≡ n

reads_one : One Reads
unfolding value
reads_one n h = omega arith

reads_more : More Reads
reads_more n ds h rest = rw (behind, rest) (omega arith)

pub read_back : (n : ℕ) → n < 10 ^ 20 → value 0 (decimal n) ≡ n
read_back = by_digits Reads reads_one reads_more 19

abbrev Leads : ℕ → List ℕ → Type 0
Leads n ds = 1 ≤ n → 48 < get_or ds 0 0

leads_more : More Leads
leads_more n [] h rest p = absurd (let q = rest (omega arith) in omega arith)
leads_more n (d ∷ ds) h rest p = rest (omega arith)

pub no_leading_zero : (n : ℕ) → 1 ≤ n → n < 10 ^ 20 → 48 < get_or (decimal n) 0 0
no_leading_zero n p h = by_digits Leads (λ n h p. omega arith) leads_more 19 n h p

abbrev Digit : ℕ → List ℕ → Type 0
Digit n ds = (b : ℕ) → Memᴰ b ds → (48 ≤ b) × (b ≤ 57)

a_digit : (d b : ℕ) → d < 10 → Memᴰ b ((48 + d) ∷ []) → (48 ≤ b) × (b ≤ 57)
a_digit d b h p = let e = Memᴰ.eq_of_singleton p in omega arith

digit_more : More Digit
digit_more n ds h rest b p = ⊎_elim (rest b) (a_digit (n % 10) b (omega arith)) (Memᴰ.append_cases ds p)

pub all_digits : (n : ℕ) → n < 10 ^ 20 → (b : ℕ) → Memᴰ b (decimal n) → (48 ≤ b) × (b ≤ 57)
all_digits = by_digits Digit (λ n h b. a_digit n b h) digit_more 19
