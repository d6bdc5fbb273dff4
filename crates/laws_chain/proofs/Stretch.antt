-- The laws of a stretch of links: it holds one list only, no task twice, and the walk finds it. Assumes nothing.
use mathlib.Core.Path.{◌≡◌, refl, ap, sym, ◌∙◌}
use mathlib.Core.List.{List, [], ◌∷◌}
use Prim.Native.Nat.{ℕ, zero, suc, ◌≤◌, ◌<◌}
use native.Mathlib.Omega.{arith}
use lib.IntN.{ℤ, pos}
use lib.ListN.{length}
use Rattle.laws_chain.specs.Lists.{All, Once}
use Rattle.laws_chain.specs.Chain.{end, start, Stretch, target, walk}
use Rattle.laws_chain.proofs.Lists.{Absent, at_most}
use Rattle.laws_chain.proofs.Walk.{walk_none, walk_some}

pub same_task : (x y : ℕ) → pos x ≡ pos y → x ≡ y
same_task x y e = cc

pub no_task : (x : ℕ) → pos x ≡ end → ⊥
no_task x e = let w : ◌≡◌ {A = ℕ} 0 1 = cc in omega arith

module _ (n : ℕ) (next previous : ℕ → ℤ) where
  pub starts : (tail back head : ℤ) (xs : List ℕ) → Stretch n next previous tail back head xs → head ≡ start tail xs
  starts tail back head [] s = s
  starts tail back head (x ∷ xs) s = s.1

  pub below : (tail back head : ℤ) (xs : List ℕ) → Stretch n next previous tail back head xs → All (λ (x : ℕ). x < n) xs
  below tail back head [] s = tt
  below tail back head (x ∷ xs) s = (s.0, below tail (pos x) (next x) xs s.3)

  -- ---- one list only

  one_list : (back back' head : ℤ) (xs ys : List ℕ) → Stretch n next previous end back head xs → Stretch n next previous end back' head ys → xs ≡ ys
  one_list back back' head [] [] s t = refl
  one_list back back' head [] (y ∷ ys) s t = absurd (no_task y (sym t.1 ∙ s))
  one_list back back' head (x ∷ xs) [] s t = absurd (no_task x (sym s.1 ∙ t))
  one_list back back' head (x ∷ xs) (y ∷ ys) s t =
      let e : x ≡ y = same_task x y (sym s.1 ∙ t.1) in
      let r : xs ≡ ys = one_list (pos x) (pos y) (next x) xs ys s.3 (rw e t.3) in
      cc

  -- From a second place of x the same list would start, so there is none.
  nowhere_again : (x : ℕ) (back back' head : ℤ) (xs ys : List ℕ) → Stretch n next previous end back head xs → Stretch n next previous end back' (next x) ys → length xs ≤ length ys → Absent x xs
  nowhere_again x back back' head [] ys s t l = tt
  nowhere_again x back back' head (y ∷ xs) ys s t l = (
    (λ e. let r : xs ≡ ys = one_list (pos y) back' (next y) xs ys s.3 (rw e at t) in omega (arith, ap length r)),
    nowhere_again x (pos y) back' (next y) xs ys s.3 t (omega arith),
  )

  pub once : (back head : ℤ) (xs : List ℕ) → Stretch n next previous end back head xs → Once xs
  once back head [] s = tt
  once back head (x ∷ xs) s = (nowhere_again x (pos x) (pos x) (next x) xs xs s.3 s.3 (omega arith), once (pos x) (next x) xs s.3)

  -- ---- the walk

  walks : (most : ℕ) (back head : ℤ) (xs : List ℕ) → length xs ≤ most → Stretch n next previous end back head xs → walk n next most head ≡ xs
  walks most back head [] l s = walk_none n next most head (rw s (omega arith))
  walks zero back head (x ∷ xs) l s = absurd (omega arith)
  walks (suc most) back head (x ∷ xs) l s =
      let t : target n head ≡ x = ap (target n) s.1 in
      let b : x < n = s.0 in
      walk_some n next most head (omega arith) ∙ rw t (ap (λ (l : List ℕ). x ∷ l) (walks most (pos x) (next x) xs (omega arith) s.3))

  -- The walk through as many as there are tasks finds the list.
  pub found : (back head : ℤ) (xs : List ℕ) → Stretch n next previous end back head xs → walk n next n head ≡ xs
  found back head xs s = walks n back head xs (at_most n xs (once back head xs s) (below end back head xs s)) s

  -- ---- other links

  module _ (next' previous' : ℕ → ℤ) where
    -- The links of tasks outside may be any.
    pub framed : (tail back head : ℤ) (xs : List ℕ) → All (λ (x : ℕ). (next' x ≡ next x) × (previous' x ≡ previous x)) xs → Stretch n next previous tail back head xs → Stretch n next' previous' tail back head xs
    framed tail back head [] a s = s
    framed tail back head (x ∷ xs) a s = (s.0, s.1, a.0.1 ∙ s.2, rw a.0.0 (framed tail (pos x) (next x) xs a.1 s.3))

    -- Links that hold the same list are the same on it.
    pub same_links : (back head head' : ℤ) (xs : List ℕ) → Stretch n next previous end back head xs → Stretch n next' previous' end back head' xs → (head ≡ head') × All (λ (x : ℕ). (next x ≡ next' x) × (previous x ≡ previous' x)) xs
    same_links back head head' [] s t = (s ∙ sym t, tt)
    same_links back head head' (x ∷ xs) s t =
        let r = same_links (pos x) (next x) (next' x) xs s.3 t.3 in
        (s.1 ∙ sym t.1, ((r.0, s.2 ∙ sym t.2), r.1))
