-- Loops that test a queue, whatever its links are, and then what it holds: what is left to test says what the whole is. Assumes nothing.
use mathlib.Core.Path.{◌≡◌, refl, ap, sym, subst, ◌∙◌}
use mathlib.Core.Logic.{◌↔◌}
use mathlib.Core.List.{List, [], ◌∷◌}
use Prim.Native.Nat.{ℕ, zero, suc, ◌-◌, ◌≤◌, ◌<◌, zero-le}
use native.Mathlib.Omega.{arith}
use lib.IntN.{ℤ, pos}
use lib.ListN.{length}
use Rattle.laws_chain.specs.Lists.{All, Rising}
use Rattle.laws_chain.specs.Chain.{end, Stretch, target, walk}
use Rattle.laws_chain.proofs.Lists.{all_map, all_of}
use Rattle.laws_chain.proofs.Links.{leads}
use Rattle.laws_chain.proofs.Walk.{walk_none, walk_some}
use Rattle.laws_chain.proofs.Scan.{ahead, nothing_left}

module _ (n : ℕ) (next previous : ℕ → ℤ) where
  -- ---- is it a chain?

  -- From the link `now` on, which was reached from the link `back`, at most `most` tasks are left to test.
  abbrev pub Untested : ℕ → ℤ → ℤ → Type 0
  Untested most back now = Stretch n next previous end back now (walk n next most now)

  pub test_end : {X : Type 0} (most : ℕ) (back now : ℤ) → n ≤ target n now → Untested most back now ↔ X → (now ≡ end) ↔ X
  test_end most back now l i = rw (walk_none n next most now l) at i

  pub test_out : {X : Type 0} (most : ℕ) (back now : ℤ) → most ≤ 0 → Untested most back now ↔ X → (now ≡ end) ↔ X
  unfolding walk
  test_out zero back now l i = i
  test_out (suc most) back now l i = absurd (omega arith)

  -- What is left from a task on.
  here : {X : Type 0} (most : ℕ) (back now : ℤ) → target n now < n → Untested (suc most) back now ↔ X
      → ((previous (target n now) ≡ back) × Untested most now (next (target n now))) ↔ X
  here most back now l i =
      let g = leads n now l in
      let j = rw (walk_some n next most now l) at i in
      let P : ℤ → Type 0 = λ b. Stretch n next previous end b (next (target n now)) (walk n next most (next (target n now))) in
      ((λ t. j.0 (l, g, t.0, subst P g t.1)), λ x. let t = j.1 x in (t.2, subst P (sym g) t.3))

  pub test_step : {X : Type 0} (most : ℕ) (back now : ℤ) → 0 < most → target n now < n → previous (target n now) ≡ back → Untested most back now ↔ X → Untested (most - 1) now (next (target n now)) ↔ X
  test_step zero back now z l e i = absurd (omega arith)
  test_step (suc most) back now z l e i =
      let q : suc most - 1 ≡ most = omega arith in
      let t = here most back now l i in
      rw q ((λ s. t.0 (e, s)), λ x. (t.1 x).1)

  pub test_not : {X : Type 0} (most : ℕ) (back now : ℤ) → 0 < most → target n now < n → (previous (target n now) ≡ back → ⊥) → Untested most back now ↔ X → X → ⊥
  test_not zero back now z l ne i x = omega arith
  test_not (suc most) back now z l ne i x = ne ((here most back now l i).1 x).0

  -- ---- what does it hold?

  -- A walk through a chain stands at task x: T of the tasks from x on says whether X.
  pub record Walking (x : ℕ) (T : List ℕ → Type 0) (X : Type 0) : Type 0 where
    pub now : ℤ
    pub back : ℤ
    pub stretch : Stretch n next previous end back now (walk n next n now)
    pub task : x ≡ target n now
    pub iff : T (walk n next n now) ↔ X

  -- The tasks from x on. The walk looks only at the task to which a link leads.
  abbrev pub onward : ℕ → List ℕ
  onward x = walk n next n (pos x)

  onward_is : (most : ℕ) (link : ℤ) → walk n next most link ≡ walk n next most (pos (target n link))
  unfolding walk
  onward_is zero link = refl
  onward_is (suc most) link = refl

  pub walking : (T : List ℕ → Type 0) (head : ℤ) → Stretch n next previous end end head (walk n next n head) → Walking (target n head) T (T (walk n next n head))
  walking T head s = record { now = head; back = end; stretch = s; task = refl; iff = ((λ t. t), λ t. t) }

  module _ {T : List ℕ → Type 0} {X : Type 0} where
    -- At a task the tasks from it on are the task and the rest.
    pub rest_of : {x : ℕ} → Walking x T X → x < n → List ℕ
    rest_of w l = (ahead n next previous w.back w.now w.stretch (rw w.task at l)).tail

    pub at_task : {x : ℕ} (w : Walking x T X) (l : x < n) → T (x ∷ rest_of w l) ↔ X
    unfolding rest_of
    at_task w l =
        let a = ahead n next previous w.back w.now w.stretch (rw w.task at l) in
        subst (λ (ys : List ℕ). T ys ↔ X) (a.is ∙ ap (λ (y : ℕ). y ∷ a.tail) (sym w.task)) w.iff

    pub goes_on : {x : ℕ} (T' : List ℕ → Type 0) (w : Walking x T X) (l : x < n) → T' (rest_of w l) ↔ X → Walking (target n (next x)) T' X × (length (onward (target n (next x))) < length (onward x))
    unfolding rest_of
    goes_on {x} T' w l i =
        let a = ahead n next previous w.back w.now w.stretch (rw w.task at l) in
        let e = w.task in
        let then : walk n next n (next x) ≡ a.tail = ap (λ (y : ℕ). walk n next n (next y)) e ∙ a.then in (
          record { now = next x; back = w.now; stretch = rw then (subst (λ (y : ℕ). Stretch n next previous end w.now (next y) a.tail) (sym e) a.on); task = refl; iff = rw then i },
          omega (arith, ap length (onward_is n (next x)), ap length then, ap length (onward_is n w.now), ap length a.is, ap (λ (y : ℕ). length (onward y)) e),
        )

    pub at_end : {x : ℕ} → Walking x T X → n ≤ x → T [] ↔ X
    at_end w l = rw (nothing_left n next previous w.back w.now w.stretch (rw w.task at l)).0 at w.iff

-- ---- the order

-- Each of the list has P, and their deadlines rise from `low` on.
abbrev pub Ordered : (ℕ → Type 0) → (ℕ → ℕ) → ℕ → List ℕ → Type 0
Ordered P deadline low [] = Unit {0}
Ordered P deadline low (x ∷ xs) = P x × (low ≤ deadline x) × Ordered P deadline (deadline x) xs

module _ (P : ℕ → Type 0) (deadline : ℕ → ℕ) where
  each : (low : ℕ) (xs : List ℕ) → Ordered P deadline low xs → All P xs
  each low [] o = tt
  each low (x ∷ xs) o = (o.0, each (deadline x) xs o.2)

  above : (low : ℕ) (xs : List ℕ) → Ordered P deadline low xs → All (λ (x : ℕ). low ≤ deadline x) xs
  above low [] o = tt
  above low (x ∷ xs) o = (o.1, all_map (λ y h. let g : low ≤ deadline x = o.1 in omega arith) xs (above (deadline x) xs o.2))

  rise : (low : ℕ) (xs : List ℕ) → Ordered P deadline low xs → Rising deadline xs
  rise low [] o = tt
  rise low (x ∷ xs) o = (above (deadline x) xs o.2, rise (deadline x) xs o.2)

  order : (low : ℕ) (xs : List ℕ) → All P xs → All (λ (x : ℕ). low ≤ deadline x) xs → Rising deadline xs → Ordered P deadline low xs
  order low [] a b r = tt
  order low (x ∷ xs) a b r = (a.0, b.0, order (deadline x) xs a.1 r.0 r.1)

  pub ordered : (xs : List ℕ) → Ordered P deadline 0 xs ↔ (All P xs × Rising deadline xs)
  ordered xs = ((λ o. (each 0 xs o, rise 0 xs o)), λ t. order 0 xs t.0 (all_of (λ x. zero-le) xs) t.1)
