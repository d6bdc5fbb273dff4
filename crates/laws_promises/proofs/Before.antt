-- The order in a queue, and what insertion and removal do to it. Assumes nothing.
use mathlib.Core.Path.{◌≡◌, refl, sym, ap, ◌∙◌}
use mathlib.Core.Bool.{Bool, true, false, cond}
use mathlib.Core.Logic.{inl, inr}
use mathlib.Core.List.{List, [], ◌∷◌}
use Prim.Native.Nat.{ℕ, ◌≤◌, ◌<◌}
use native.Mathlib.Omega.{arith}
use lib.Dec.{leb, eqb}
use borrow.Author.Tests.{le-leb, eqb-true}
use Rattle.laws_chain.specs.Lists.{Among, Once, Rising, insert, remove}
use Rattle.laws_chain.proofs.Lists.{all_among}
use Rattle.laws_promises.specs.Earliest.{Before}

-- Who stands behind another is among those behind the first, so not the first itself.
behind_among : (x y : ℕ) (xs : List ℕ) → Before x y xs → Among y xs
behind_among x y [] b = absurd b
behind_among x y (z ∷ zs) (inl (e, a)) = inr a
behind_among x y (z ∷ zs) (inr b) = inr (behind_among x y zs b)

pub never_first : (x y : ℕ) (ys : List ℕ) → Once (y ∷ ys) → Before x y (y ∷ ys) → ⊥
never_first x y ys o (inl (e, a)) = all_among (λ (z : ℕ). y ≡ z → ⊥) y ys o.0 a refl
never_first x y ys o (inr b) = all_among (λ (z : ℕ). y ≡ z → ⊥) y ys o.0 (behind_among x y ys b) refl

-- By rising deadline the earlier one stands before.
module _ (d : ℕ → ℕ) (x y : ℕ) (l : d x < d y) where
  pub rising_before : (xs : List ℕ) → Rising d xs → Among x xs → Among y xs → Before x y xs
  rising_before [] r a b = absurd a
  rising_before (z ∷ zs) r (inl e) (inl f) = absurd (let h : d x ≡ d y = ap d (sym e ∙ f) in omega arith)
  rising_before (z ∷ zs) r (inl e) (inr b) = inl (e, b)
  rising_before (z ∷ zs) r (inr a) (inl f) = absurd (let h = all_among (λ (w : ℕ). d z ≤ d w) x zs r.0 a in let g : d z ≡ d y = ap d f in omega arith)
  rising_before (z ∷ zs) r (inr a) (inr b) = inr (rising_before zs r.1 a b)

-- i is among those into which it is inserted, and so are the others still.
module _ (p : ℕ → Bool) (i : ℕ) where
  here : (xs : List ℕ) → Among i (insert p i xs)
  here [] = inl refl
  here (z ∷ zs) = go (p z) (here zs)
    where
      go : (b : Bool) → Among i (insert p i zs) → Among i (cond b (z ∷ insert p i zs) (i ∷ z ∷ zs))
      go true h = inr h
      go false h = inl refl

  still : (y : ℕ) (xs : List ℕ) → Among y xs → Among y (insert p i xs)
  still y [] a = absurd a
  still y (z ∷ zs) a = go (p z) (still y zs) a
    where
      go : (b : Bool) → (Among y zs → Among y (insert p i zs)) → Among y (z ∷ zs) → Among y (cond b (z ∷ insert p i zs) (i ∷ z ∷ zs))
      go true ih (inl e) = inl e
      go true ih (inr a) = inr (ih a)
      go false ih a = inr a

  -- The others keep their order.
  pub insert_before : (x y : ℕ) (xs : List ℕ) → Before x y xs → Before x y (insert p i xs)
  insert_before x y [] b = absurd b
  insert_before x y (z ∷ zs) b = go (p z) (insert_before x y zs) b
    where
      go : (c : Bool) → (Before x y zs → Before x y (insert p i zs)) → Before x y (z ∷ zs) → Before x y (cond c (z ∷ insert p i zs) (i ∷ z ∷ zs))
      go true ih (inl (e, a)) = inl (e, still y zs a)
      go true ih (inr b) = inr (ih b)
      go false ih b = inr b

-- i goes in behind every one with a deadline no later than n.
module _ (d : ℕ → ℕ) (n i x : ℕ) (l : d x ≤ n) where
  abbrev passes : ℕ → Bool
  passes y = leb (d y) n

  pub insert_behind : (xs : List ℕ) → Rising d xs → Among x xs → Before x i (insert passes i xs)
  insert_behind [] r a = absurd a
  insert_behind (z ∷ zs) r a = rw (le-leb (d z) n (no_later a)) (go a (insert_behind zs r.1))
    where
      no_later : Among x (z ∷ zs) → d z ≤ n
      no_later (inl e) = let h : d z ≡ d x = ap d e in omega arith
      no_later (inr a) = let h = all_among (λ (w : ℕ). d z ≤ d w) x zs r.0 a in omega arith

      go : Among x (z ∷ zs) → (Among x zs → Before x i (insert passes i zs)) → Before x i (z ∷ insert passes i zs)
      go (inl e) ih = inl (e, here passes i zs)
      go (inr a) ih = inr (ih a)

-- Where another goes out, the order stays.
module _ (i x y : ℕ) (nx : x ≡ i → ⊥) (ny : y ≡ i → ⊥) where
  left : (xs : List ℕ) → Among y xs → Among y (remove i xs)
  left [] a = absurd a
  left (z ∷ zs) a = go (eqb z i) refl (left zs) a
    where
      go : (b : Bool) → eqb z i ≡ b → (Among y zs → Among y (remove i zs)) → Among y (z ∷ zs) → Among y (cond b zs (z ∷ remove i zs))
      go true e ih (inl f) = absurd (ny (sym f ∙ eqb-true z i e))
      go true e ih (inr a) = a
      go false e ih (inl f) = inl f
      go false e ih (inr a) = inr (ih a)

  pub remove_before : (xs : List ℕ) → Before x y xs → Before x y (remove i xs)
  remove_before [] b = absurd b
  remove_before (z ∷ zs) b = go (eqb z i) refl (remove_before zs) b
    where
      go : (c : Bool) → eqb z i ≡ c → (Before x y zs → Before x y (remove i zs)) → Before x y (z ∷ zs) → Before x y (cond c zs (z ∷ remove i zs))
      go true e ih (inl (f, a)) = absurd (nx (sym f ∙ eqb-true z i e))
      go true e ih (inr b) = b
      go false e ih (inl (f, a)) = inl (f, left zs a)
      go false e ih (inr b) = inr (ih b)
