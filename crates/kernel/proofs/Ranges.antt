-- What `all`, `any` and `find` over a range of numbers answer, where their closure decides something of each. Assumes nothing.
use mathlib.Core.Path.{◌≡◌, refl, sym, ◌∙◌}
use mathlib.Core.Bool.{Bool, true, false, false≢true}
use mathlib.Core.List.{List}
use mathlib.Core.Logic.{◌↔◌}
use Prim.Native.Nat.{ℕ, ◌+◌, ◌-◌, ◌≤◌, ◌<◌}
use native.Mathlib.Omega.{arith}
use lib.ListN.{length, get_or}
use denote.Ref.{Bor}
use denote.Param.Members.{Mut, Called}
use Rattle.std.specs.declared.option.Option.{Option}
use Rattle.std.specs.declared.option.Option.TheVariants.{None, Some}
use Rattle.std.specs.declared.ops.Range.{Range}
use Rattle.std.specs.Bool.{MatchBool}
use Rattle.std.specs.Fn.{CalledAt}
use Rattle.std.specs.Iterator.{ChecksAll, ChecksAny, FindsItem}
use Rattle.std.specs.List.{AllWithin, HoldsAt, range_with_len}
use Rattle.std.specs.Option.{MatchOption, unwrap_or}
use Rattle.std.proofs.iter.Yields.{nat_range_steps}
use Rattle.std.proofs.lemmas.Iterator.{cases_from_all, cases_from_any, first_from_Range, YieldsList-from_range}
use Rattle.std.proofs.lemmas.List.FromFn.{length-range_with_len, get_or-range_with_len}
use Rattle.kernel.specs.Kernel.{lowest}
use Rattle.kernel.proofs.Decided.{yes, no, means}
use Rattle.kernel.proofs.Lowest.{none_lower, stops, ends}

-- The numbers from a on and below n, as a list.
abbrev numbers : (a n : ℕ) → List ℕ
numbers a n = range_with_len a (n - a)

nth : (a n k : ℕ) → k < length (numbers a n) → get_or (numbers a n) k 0 ≡ a + k
nth a n k l = get_or-range_with_len a (n - a) k 0 (omega (arith, length-range_with_len a (n - a)))

module _ (a n : ℕ) (P : ℕ → Type 0) where
  abbrev Inside : ℕ → Type 0
  Inside x = a ≤ x → x < n → P x

  every : AllWithin Inside (numbers a n) 0 (length (numbers a n)) → (x : ℕ) → Inside x
  every h x m l =
      let long = length-range_with_len a (n - a) in
      let i : x - a < length (numbers a n) = omega arith in
      let is : get_or (numbers a n) (x - a) 0 ≡ x = omega (arith, nth a n (x - a) i) in
      rw is at (h (x - a) 0 (omega arith) i) m l

  some : (k : ℕ) × (k < length (numbers a n)) × HoldsAt Inside (numbers a n) k → (x : ℕ) × (a ≤ x) × (x < n) × P x
  some h =
      let long = length-range_with_len a (n - a) in
      let l = h.1 in
      let below : a + h.0 < n = omega arith in
      (a + h.0, omega arith, below, rw (nth a n h.0 l) at (h.2 0) (omega arith) below)

module _ {F : Type 0} {f : F} {u : Range ℕ} where
  -- `all`, where the closure decides P of each number.
  module _ {g : Mut F (ℕ × Unit {0}) Bool} {P : ℕ → Type 0} {a n : ℕ} {r : Bool} where
    pub all_in : ChecksAll nat_range_steps g (record { start = a; end = n }) f r u → ((x : ℕ) (b : Bool) (q : F) → Called g f (x, tt) b q → (q ≡ f) × (a ≤ x → x < n → (b ≡ true) ↔ P x))
        → (r ≡ true) ↔ ((x : ℕ) → a ≤ x → x < n → P x)
    all_in ran tells =
        go r
        (cases_from_all u f r (Inside a n P) (Inside a n (λ x. P x → ⊥)) ran (YieldsList-from_range a n (n - a) refl refl) (λ x q k. let t = tells x true q k in (t.0, λ m l. (t.1 m l).0 refl))
        (λ x q k m l p. false≢true (((tells x false q k).1 m l).1 p)))
      where
        go : (b : Bool) → MatchBool b (AllWithin (Inside a n P) (numbers a n) 0 (length (numbers a n))) ((k : ℕ) × (k < length (numbers a n)) × HoldsAt (Inside a n (λ x. P x → ⊥)) (numbers a n) k)
            → (b ≡ true) ↔ ((x : ℕ) → a ≤ x → x < n → P x)
        go true h = yes (every a n P h)
        go false h = let s = some a n (λ x. P x → ⊥) h in no (λ all. s.3 (all s.0 s.1 s.2))

  module _ {g : Mut F (ℕ × Unit {0}) Bool} {P : ℕ → Type 0} {n : ℕ} {r : Bool} where
    pub all_below : ChecksAll nat_range_steps g (record { start = 0; end = n }) f r u → ((x : ℕ) (b : Bool) (q : F) → Called g f (x, tt) b q → (q ≡ f) × (x < n → (b ≡ true) ↔ P x))
        → (r ≡ true) ↔ ((x : ℕ) → x < n → P x)
    all_below ran tells = means (all_in ran (λ x b q k. let t = tells x b q k in (t.0, λ m. t.1))) (λ all x. all x (omega arith)) (λ all x m. all x)

  -- `any`, likewise: the number of which it does, or that it does of none.
  module _ {g : Mut F (ℕ × Unit {0}) Bool} {P : ℕ → Type 0} {n : ℕ} {r : Bool} where
    pub any_below : ChecksAny nat_range_steps g (record { start = 0; end = n }) f r u → ((x : ℕ) (b : Bool) (q : F) → Called g f (x, tt) b q → (q ≡ f) × (x < n → (b ≡ true) ↔ P x))
        → MatchBool r ((x : ℕ) × (x < n) × P x) ((x : ℕ) → x < n → P x → ⊥)
    any_below ran tells =
        go r
        (cases_from_any u f r (Inside 0 n P) (Inside 0 n (λ x. P x → ⊥)) ran (YieldsList-from_range 0 n (n - 0) refl refl) (λ x q k m l. ((tells x true q k).1 l).0 refl)
        (λ x q k. let t = tells x false q k in (t.0, λ m l p. false≢true ((t.1 l).1 p))))
      where
        go : (b : Bool) → MatchBool b ((k : ℕ) × (k < length (numbers 0 n)) × HoldsAt (Inside 0 n P) (numbers 0 n) k) (AllWithin (Inside 0 n (λ x. P x → ⊥)) (numbers 0 n) 0 (length (numbers 0 n)))
            → MatchBool b ((x : ℕ) × (x < n) × P x) ((x : ℕ) → x < n → P x → ⊥)
        go true h = let s = some 0 n P h in (s.0, s.2, s.3)
        go false h = λ x. every 0 n (λ x. P x → ⊥) h x (omega arith)

-- `find`, where the closure computes p, and n where it finds none.
pub found_below : {F : Type 0} {f : F} {g : Mut F (Bor ℕ × Unit {0}) Bool} {p : ℕ → Bool} {n x : ℕ} (r : Option ℕ) (u : Range ℕ)
    → FindsItem nat_range_steps g (record { start = 0; end = n }) f r u → x ≡ unwrap_or r n → ((x : ℕ) (b : Bool) (q : F) → CalledAt g f x b q → (q ≡ f) × (x < n → b ≡ p x)) → x ≡ lowest n p
found_below {F} {f} {g} {p} {n} {x} r u ran is tells =
    is
    ∙ go r
    (first_from_Range (record { start = 0; end = n }) u f r (λ x. x < n → p x ≡ true) (λ x. x < n → p x ≡ false) ran (λ x q k l. sym ((tells x true q k).1 l))
    (λ x q k. let t = tells x false q k in (t.0, λ l. sym (t.1 l))))
  where
    go : (o : Option ℕ) → MatchOption o ((k : ℕ) → 0 ≤ k → k < n → k < n → p k ≡ false) (λ i. (0 ≤ i) × (i < n) × (i < n → p i ≡ true) × ((k : ℕ) → 0 ≤ k → k < i → k < n → p k ≡ false))
        → unwrap_or o n ≡ lowest n p
    go None h = sym (ends (none_lower n (omega arith) (λ k l. h k (omega arith) l l)) (omega arith))
    go (Some i) h = let l = h.1 in sym (stops (none_lower i (omega arith) (λ k m. h.3 k (omega arith) m (omega arith))) l (h.2 l))
