-- A list that is made by its numbers: how long it is, what stands in it, and when two of them are one. Assumes nothing.
use mathlib.Core.Path.{◌≡◌, refl, ap, ◌∙◌}
use mathlib.Core.List.{◌∷◌}
use Prim.Native.Nat.{ℕ, zero, suc, ◌≤◌, ◌<◌}
use native.Mathlib.Omega.{arith}
use lib.ListN.{length, get_or, set}
use Rattle.kernel.specs.Seen.{tabulate}

pub tabulate_length : {A : Type 0} (n : ℕ) (f : ℕ → A) → length (tabulate n f) ≡ n
unfolding tabulate
tabulate_length zero f = refl
tabulate_length (suc n) f = ap suc (tabulate_length n (λ x. f (suc x)))

pub tabulate_at : {A : Type 0} (n : ℕ) (f : ℕ → A) (x : ℕ) (d : A) → x < n → get_or (tabulate n f) x d ≡ f x
unfolding tabulate
tabulate_at zero f x d l = absurd (omega arith)
tabulate_at (suc n) f zero d l = refl
tabulate_at (suc n) f (suc x) d l = tabulate_at n (λ y. f (suc y)) x d (omega arith)

pub tabulate_past : {A : Type 0} (n : ℕ) (f : ℕ → A) (x : ℕ) (d : A) → n ≤ x → get_or (tabulate n f) x d ≡ d
unfolding tabulate
tabulate_past zero f x d l = refl
tabulate_past (suc n) f zero d l = absurd (omega arith)
tabulate_past (suc n) f (suc x) d l = tabulate_past n (λ y. f (suc y)) x d (omega arith)

-- Two with the same entries are one.
pub tabulate_same : {A : Type 0} (n : ℕ) (f g : ℕ → A) → ((x : ℕ) → x < n → f x ≡ g x) → tabulate n f ≡ tabulate n g
unfolding tabulate
tabulate_same zero f g h = refl
tabulate_same (suc n) f g h =
    ap (λ a. a ∷ tabulate n (λ x. f (suc x))) (h 0 (omega arith)) ∙ ap (λ l. g 0 ∷ l) (tabulate_same n (λ x. f (suc x)) (λ x. g (suc x)) (λ x l. h (suc x) (omega arith)))

-- One of which one entry is another.
pub tabulate_set : {A : Type 0} (n : ℕ) (f g : ℕ → A) (i : ℕ) → ((x : ℕ) → x < n → (x ≡ i → ⊥) → g x ≡ f x) → tabulate n g ≡ set (tabulate n f) i (g i)
unfolding tabulate
tabulate_set zero f g i h = refl
tabulate_set (suc n) f g zero h = ap (λ l. g 0 ∷ l) (tabulate_same n (λ x. g (suc x)) (λ x. f (suc x)) (λ x l. h (suc x) (omega arith) (λ e. omega arith)))
tabulate_set (suc n) f g (suc i) h =
    ap (λ a. a ∷ tabulate n (λ x. g (suc x))) (h 0 (omega arith) (λ e. omega arith))
    ∙ ap (λ l. f 0 ∷ l) (tabulate_set n (λ x. f (suc x)) (λ x. g (suc x)) i (λ x l ne. h (suc x) (omega arith) (λ e. ne (omega arith))))
