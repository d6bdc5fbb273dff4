-- A task comes in between two neighbours, or goes out from between them. Assumes nothing.
use mathlib.Core.Path.{◌≡◌, refl, sym, ◌∙◌}
use mathlib.Core.Bool.{cond}
use mathlib.Core.List.{List, [], ◌∷◌, ◌++◌}
use Prim.Native.Nat.{ℕ, ◌<◌}
use native.Mathlib.Omega.{arith}
use lib.IntN.{ℤ, pos}
use lib.Dec.{ltb}
use borrow.Author.Tests.{lt-ltb, le-ltb}
use Rattle.laws_chain.specs.Lists.{All, Once}
use Rattle.laws_chain.specs.Chain.{end, start, finish, Stretch, Chain, target}
use Rattle.laws_chain.proofs.Lists.{Absent, More, all_zip, all_left, all_right, once_left, once_right, once_before, once_after, less_once}
use Rattle.laws_chain.proofs.Stretch.{same_task, no_task, starts, below, once, framed}

-- But for task i, the links are as before, save that what the link `before` leads to has the next link v, and what `after` leads to has
-- the previous link w.
pub record Relinked (n i : ℕ) (before after v w : ℤ) (next previous next' previous' : ℕ → ℤ) : Type 0 where
  pub next_turned : (x : ℕ) → x < n → (x ≡ i → ⊥) → pos x ≡ before → next' x ≡ v
  pub next_kept : (x : ℕ) → (x ≡ i → ⊥) → (pos x ≡ before → ⊥) → next' x ≡ next x
  pub previous_turned : (x : ℕ) → x < n → (x ≡ i → ⊥) → pos x ≡ after → previous' x ≡ w
  pub previous_kept : (x : ℕ) → (x ≡ i → ⊥) → (pos x ≡ after → ⊥) → previous' x ≡ previous x

-- The head of a queue, where the first of its tasks is new or gone: `before` leads to none then.
abbrev pub new_head : ℕ → ℤ → ℤ → ℤ → ℤ
new_head n before head v = cond (ltb (target n before) n) head v

-- All that is written where task i comes into queue p or goes out of it: the links on both sides, its own, and the head.
pub record Written (n m i p : ℕ) (before after v w own_next own_previous : ℤ) (next previous head next' previous' head' : ℕ → ℤ) : Type 0 where
  pub sides : Relinked n i before after v w next previous next' previous'
  pub next_is : next' i ≡ own_next
  pub previous_is : previous' i ≡ own_previous
  pub head_is : head' p ≡ new_head n before (head p) v
  pub heads_kept : (q : ℕ) → q < m → (q ≡ p → ⊥) → head' q ≡ head q

-- ---- neighbours

not_finish : (x : ℕ) (back : ℤ) (us : List ℕ) → (pos x ≡ back → ⊥) → Absent x us → pos x ≡ finish back us → ⊥
not_finish x back [] ne a e = ne e
not_finish x back (u ∷ us) ne a e = not_finish x (pos u) us (λ q. a.0 (same_task x u q)) a.1 e

not_start : (x : ℕ) (vs : List ℕ) → Absent x vs → pos x ≡ start end vs → ⊥
not_start x [] a e = no_task x e
not_start x (v ∷ vs) a e = a.0 (same_task x v e)

-- The head of us, which then go on to v: v itself where there are none of them.
abbrev head_or : ℤ → ℤ → List ℕ → ℤ
head_or v head [] = v
head_or v head (u ∷ us) = head

finish_task : (n : ℕ) (u : ℕ) (us : List ℕ) → All (λ (x : ℕ). x < n) (u ∷ us) → target n (finish (pos u) us) < n
finish_task n u [] l = l.0
finish_task n u (w ∷ us) l = finish_task n w us l.1

turn_head : (n : ℕ) (v head : ℤ) (us : List ℕ) → All (λ (x : ℕ). x < n) us → new_head n (finish end us) head v ≡ head_or v head us
turn_head n v head [] l = rw (le-ltb n n (omega arith)) refl
turn_head n v head (u ∷ us) l = rw (lt-ltb (target n (finish (pos u) us)) n (finish_task n u us l)) refl

-- ---- the parts of a stretch

module _ (n : ℕ) (next previous : ℕ → ℤ) where
  parted : (tail back head : ℤ) (us vs : List ℕ) → Stretch n next previous tail back head (us ++ vs)
      → Stretch n next previous (start tail vs) back head us × Stretch n next previous tail (finish back us) (start tail vs) vs
  parted tail back head [] vs s = let e = starts n next previous tail back head vs s in (e, rw e at s)
  parted tail back head (u ∷ us) vs s =
      let r = parted tail (pos u) (next u) us vs s.3 in
      ((s.0, s.1, s.2, r.0), r.1)

  joined : (tail back head : ℤ) (us vs : List ℕ) → Stretch n next previous (start tail vs) back head us → Stretch n next previous tail (finish back us) (start tail vs) vs
      → Stretch n next previous tail back head (us ++ vs)
  joined tail back head [] vs s t = rw s t
  joined tail back head (u ∷ us) vs s t = (s.0, s.1, s.2, joined tail (pos u) (next u) us vs s.3 t)

-- ---- what relinking does to them

module _ {n i : ℕ} {before after v w : ℤ} {next previous next' previous' : ℕ → ℤ} (r : Relinked n i before after v w next previous next' previous') where
  -- A task that is no neighbour keeps its links.
  pub kept : (us vs : List ℕ) → before ≡ finish end us → after ≡ start end vs → (x : ℕ) → (i ≡ x → ⊥) → Absent x us → Absent x vs → (next' x ≡ next x) × (previous' x ≡ previous x)
  kept us vs eb ea x ne au av = (
    r.next_kept x (λ e. ne (sym e)) (λ e. not_finish x end us (no_task x) au (e ∙ eb)),
    r.previous_kept x (λ e. ne (sym e)) (λ e. not_start x vs av (e ∙ ea)),
  )

  -- The front now goes on to v.
  front_turned : (tail back head : ℤ) (us : List ℕ) → before ≡ finish back us → All (λ (x : ℕ). previous' x ≡ previous x) us → Once us → Absent i us
      → Stretch n next previous tail back head us → Stretch n next' previous' v back (head_or v head us) us
  front_turned tail back head [] e a o b s = refl
  front_turned tail back head (u ∷ []) e a o b s = (s.0, s.1, a.0 ∙ s.2, r.next_turned u s.0 (λ q. b.0 (sym q)) (sym e))
  front_turned tail back head (u ∷ x ∷ us) e a o b s =
      let t : next' u ≡ next u = r.next_kept u (λ q. b.0 (sym q)) (λ q. not_finish u (pos x) us (λ p. o.0.0 (same_task u x p)) o.0.1 (q ∙ e)) in
      (s.0, s.1, a.0 ∙ s.2, rw t (front_turned tail (pos u) (next u) (x ∷ us) e a.1 o.1 b.1 s.3))

  -- The back now comes after w.
  back_turned : (back : ℤ) (vs : List ℕ) → after ≡ start end vs → All (λ (x : ℕ). next' x ≡ next x) vs → Once vs → Absent i vs
      → Stretch n next previous end back (start end vs) vs → Stretch n next' previous' end w (start end vs) vs
  back_turned back [] e a o b s = s
  back_turned back (x ∷ vs) e a o b s = (
    s.0,
    refl,
    r.previous_turned x s.0 (λ q. b.0 (sym q)) (sym e),
    rw a.0 (framed n next previous next' previous' end (pos x) (next x) vs (all_zip both vs a.1 (all_zip later vs o.0 b.1)) s.3),
  )
    where
      later : (y : ℕ) → (x ≡ y → ⊥) → (i ≡ y → ⊥) → previous' y ≡ previous y
      later y ne ni = r.previous_kept y (λ q. ni (sym q)) (λ q. ne (sym (same_task y x (q ∙ e))))

      both : (y : ℕ) → next' y ≡ next y → previous' y ≡ previous y → (next' y ≡ next y) × (previous' y ≡ previous y)
      both y p q = (p, q)

  -- Both sides of the place between them.
  both_sides : (tail back head : ℤ) (us vs : List ℕ) → before ≡ finish end us → after ≡ start end vs → Once (us ++ vs) → Absent i (us ++ vs)
      → Stretch n next previous tail end head us → Stretch n next previous end back (start end vs) vs
      → Stretch n next' previous' v end (head_or v head us) us × Stretch n next' previous' end w (start end vs) vs
  both_sides tail back head us vs eb ea o a s t =
      let au : Absent i us = all_left _ us vs a in
      let av : Absent i vs = all_right _ us vs a in (
        front_turned tail end head us eb
            (all_zip (λ x b ne. r.previous_kept x (λ e. ne (sym e)) (λ e. not_start x vs b (e ∙ ea))) us (once_before us vs o) au) (once_left us vs o) au s,
        back_turned back vs ea
            (all_zip (λ x b ne. r.next_kept x (λ e. ne (sym e)) (λ e. not_finish x end us (no_task x) b (e ∙ eb))) vs (once_after us vs o) av) (once_right us vs o) av t,
      )

-- ---- the two moves

-- The links of a task of a queue lead to its neighbours.
pub neighbours : {n i : ℕ} {next previous : ℕ → ℤ} {head : ℤ} {xs ys : List ℕ} (m : More i xs ys) → Chain n next previous head xs
    → (previous i ≡ finish end m.front) × (next i ≡ start end m.back)
neighbours {n} {i} {next} {previous} {head} m c =
    let p = (parted n next previous end end head m.front (i ∷ m.back) (rw m.more at c.whole)).1 in
    (p.2, starts n next previous end (pos i) (next i) m.back p.3)

-- i goes out from between its neighbours.
pub gone : {n i : ℕ} {next previous next' previous' : ℕ → ℤ} {head head' : ℤ} {xs ys : List ℕ} → More i xs ys
    → Relinked n i (previous i) (next i) (next i) (previous i) next previous next' previous' → head' ≡ new_head n (previous i) head (next i)
    → Chain n next previous head xs → Chain n next' previous' head' ys
gone {n} {i} {next} {previous} {next'} {previous'} {head} {head'} {xs} m r eh c =
    let us = m.front in
    let vs = m.back in
    let p = parted n next previous end end head us (i ∷ vs) (rw m.more at c.whole) in
    let o = less_once m (once n next previous end head xs c.whole) in
    let eb = (neighbours m c).0 in
    let ea = (neighbours m c).1 in
    let t = both_sides r (pos i) (pos i) head us vs eb ea (rw m.less at o.1) (rw m.less at o.0) p.0 (rw ea at p.1.3) in
    let h : head' ≡ head_or (start end vs) head us =
    eh ∙ rw (eb, ea) (turn_head n (start end vs) head us (below n next previous (pos i) end head us p.0)) in
    record { whole = rw (h, m.less) (joined n next' previous' end end (head_or (start end vs) head us) us vs (rw ea at t.0) (rw eb at t.1)) }

-- i comes in between the link `before` and the link `after`.
pub come : {n i : ℕ} {before after : ℤ} {next previous next' previous' : ℕ → ℤ} {head head' : ℤ} {xs ys : List ℕ} (m : More i xs ys)
    → before ≡ finish end m.front → after ≡ start end m.back → i < n → Absent i ys
    → Relinked n i before after (pos i) (pos i) next previous next' previous' → next' i ≡ after → previous' i ≡ before → head' ≡ new_head n before head (pos i)
    → Chain n next previous head ys → Chain n next' previous' head' xs
come {n} {i} {before} {after} {next} {previous} {next'} {previous'} {head} {head'} {xs} {ys} m eb ea li a r en ep eh c =
    let us = m.front in
    let vs = m.back in
    let p = parted n next previous end end head us vs (rw m.less at c.whole) in
    let o = once n next previous end head ys c.whole in
    let t = both_sides r (start end vs) (finish end us) head us vs eb ea (rw m.less at o) (rw m.less at a) p.0 p.1 in
    let h : head' ≡ head_or (pos i) head us = eh ∙ rw eb (turn_head n (pos i) head us (below n next previous (start end vs) end head us p.0)) in
    record { whole = rw (h, m.more) (joined n next' previous' end end (head_or (pos i) head us) us (i ∷ vs) t.0 (li, refl, ep ∙ eb, rw (en ∙ ea) t.1)) }
