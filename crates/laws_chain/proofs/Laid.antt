-- Links for any queues: laid out, they hold the lists. Assumes nothing.
use mathlib.Core.Path.{◌≡◌, refl, ap, ◌∙◌}
use mathlib.Core.Bool.{cond}
use mathlib.Core.List.{List, [], ◌∷◌}
use Prim.Native.Nat.{ℕ, ◌≤◌, ◌<◌}
use lib.IntN.{ℤ, pos}
use lib.Dec.{eqb}
use borrow.Author.Tests.{eq-eqb, ne_eqb}
use Rattle.laws_chain.specs.Lists.{All, Once}
use Rattle.laws_chain.specs.Chain.{end, start, Stretch}
use Rattle.laws_chain.specs.Filing.{Queue, Filed}
use Rattle.laws_chain.proofs.Lists.{all_map}
use Rattle.laws_chain.proofs.Stretch.{framed}

-- The link to the one behind i in a list, -1 where there is none.
abbrev pub after : List ℕ → ℕ → ℤ
after [] i = end
after (x ∷ xs) i = cond (eqb x i) (start end xs) (after xs i)

-- The link to the one before i, `back` at the first.
abbrev pub before : ℤ → List ℕ → ℕ → ℤ
before back [] i = end
before back (x ∷ xs) i = cond (eqb x i) back (before (pos x) xs i)

-- They hold the list.
along : (n : ℕ) (back : ℤ) (xs : List ℕ) → Once xs → All (λ (x : ℕ). x < n) xs → Stretch n (after xs) (before back xs) end back (start end xs) xs
along n back [] o b = refl
along n back (x ∷ xs) o b =
    let here = eq-eqb x x refl in
    let others : All (λ (y : ℕ). (after (x ∷ xs) y ≡ after xs y) × (before back (x ∷ xs) y ≡ before (pos x) xs y)) xs =
    all_map (λ y ne. (rw (ne_eqb x y ne) refl, rw (ne_eqb x y ne) refl)) xs o.0 in
    let rest = framed n (after xs) (before (pos x) xs) (after (x ∷ xs)) (before back (x ∷ xs)) end (pos x) (start end xs) xs others (along n (pos x) xs o.1 b.1) in
    (b.0, refl, rw here refl, rw here rest)

-- **laid**: links that are so in the list of each task's own place, and heads that are the first of each list, hold the queues.
pub laid : {n m : ℕ} {standing deadline : ℕ → ℕ} {next previous head : ℕ → ℤ} {queue : ℕ → List ℕ}
    → ((q : ℕ) → q < m → Queue n standing deadline q (queue q)) → ((q : ℕ) → m ≤ q → queue q ≡ [])
    → ((x : ℕ) → x < n → (next x ≡ after (queue (standing x)) x) × (previous x ≡ before end (queue (standing x)) x)) → ((q : ℕ) → q < m → head q ≡ start end (queue q))
    → Filed n m standing next previous head queue
laid {n} {m} {standing} {deadline} {next} {previous} {head} {queue} k none links heads =
    record {
      linked = λ q l. record { whole = rw (heads q l) (chain q (k q l)) };
      alone_next = λ x l h. (links x l).0 ∙ ap (λ (ys : List ℕ). after ys x) (none (standing x) h);
      alone_previous = λ x l h. (links x l).1 ∙ ap (λ (ys : List ℕ). before end ys x) (none (standing x) h);
    }
  where
    chain : (q : ℕ) → Queue n standing deadline q (queue q) → Stretch n next previous end end (start end (queue q)) (queue q)
    chain q kq =
        let xs = queue q in
        let own : All (λ (x : ℕ). (next x ≡ after xs x) × (previous x ≡ before end xs x)) xs = all_map (λ x o. rw o.1 at (links x o.0)) xs kq.only in
        framed n (after xs) (before end xs) next previous end end (start end xs) xs own (along n end xs kq.once (all_map (λ x o. o.0) xs kq.only))
