-- How a statement is decided from its parts. Assumes nothing.
use mathlib.Core.Path.{◌≡◌}
use mathlib.Core.Logic.Dec
use mathlib.Core.Logic.{◌↔◌, ◌⊎◌, inl, inr, ⊎_elim}
use mathlib.Core.List.{List, [], ◌∷◌}
use Prim.Native.Nat.{ℕ, zero, suc, ◌<◌}
use native.Mathlib.Omega.{arith}
use native.Mathlib.Decide.{ℕ_discrete, map_dec}
use Rattle.laws_chain.specs.Lists.{All}

-- Falsehood does not hold.
pub never : Dec ⊥
never = no (λ x. x)

-- A record or a tuple, part by part: without the part there is no whole.
pub part : {P R : Type 0} → (R → P) → Dec P → (P → Dec R) → Dec R
part f (yes p) rest = rest p
part f (no n) rest = no (λ r. n (f r))

-- Implication, equivalence, and one of two.
pub where_so : {P Q : Type 0} → Dec P → Dec Q → Dec (P → Q)
where_so (yes p) d = map_dec (λ q h. q) (λ f. f p) d
where_so (no n) d = yes (λ p. absurd (n p))

pub exactly_where : {P Q : Type 0} → Dec P → Dec Q → Dec (P ↔ Q)
exactly_where d e = Dec.and (where_so d e) (where_so e d)

pub one_or_other : {P Q : Type 0} → Dec P → Dec Q → Dec (P ⊎ Q)
one_or_other (yes p) e = yes (inl p)
one_or_other (no n) (yes q) = yes (inr q)
one_or_other (no n) (no m) = no (⊎_elim n m)

-- Every number below n.
pub each_below : {P : ℕ → Type 0} (n : ℕ) → ((x : ℕ) → Dec (P x)) → Dec ((x : ℕ) → x < n → P x)
each_below zero d = yes (λ x l. absurd (omega arith))
each_below {P} (suc n) d =
    part (λ f x l. f x (omega arith)) (each_below n d) λ below.
    part (λ f. f n (omega arith)) (d n) λ last.
    yes (λ x l. this below last x l (ℕ_discrete x n))
  where
    this : ((x : ℕ) → x < n → P x) → P n → (x : ℕ) → x < suc n → Dec (x ≡ n) → P x
    this below last x l (yes e) = rw e last
    this below last x l (no ne) = below x (omega arith)

-- Every element of a list.
pub each_of : {P : ℕ → Type 0} → ((x : ℕ) → Dec (P x)) → (xs : List ℕ) → Dec (All P xs)
each_of d [] = yes tt
each_of d (x ∷ xs) = Dec.and (d x) (each_of d xs)
