-- A queue is by rising deadline, so those that are due stand in front: a sweep acts on the first until it is not due. Assumes nothing.
use mathlib.Core.Path.{◌≡◌, refl, ap, sym, subst, ◌∙◌}
use mathlib.Core.Bool.{Bool, true, false, cond, ◌||◌, true≢false}
use mathlib.Core.List.{List, [], ◌∷◌}
use Prim.Native.Nat.{ℕ, ◌≤◌, ◌<◌}
use native.Mathlib.Omega.{arith}
use borrow.Author.Tests.{leb-true, leb-false, le-leb, lt-leb}
use Rattle.laws_chain.specs.Lists.{All, Rising}
use Rattle.laws_chain.proofs.Lists.{all_map}
use Rattle.kernel.specs.Kernel.{Kernel, task, queue}
use Rattle.kernel.specs.Tick.{due, sweep, any_due}
use Rattle.kernel.specs.Good.{deadline_of}

-- f is done to each task of queue q that is due.
abbrev pub swept : (Kernel → ℕ → Kernel) → ℕ → Kernel → Kernel
swept f q k = sweep f k (queue k q)

-- None of the list is due.
abbrev pub NoneDue : Kernel → List ℕ → Type 0
NoneDue k xs = All (λ (x : ℕ). k.clock < (task k x).deadline) xs

module _ (k : Kernel) where
  -- If the first is not due, none is.
  pub none_due : {x : ℕ} {xs ys : List ℕ} → ys ≡ x ∷ xs → Rising (deadline_of k) ys → k.clock < (task k x).deadline → NoneDue k ys
  none_due {xs = xs} e r l = rw e (l, all_map (λ y h. omega arith) xs (rw e at r).0)

  pub sweep_none : (f : Kernel → ℕ → Kernel) (xs : List ℕ) → NoneDue k xs → sweep f k xs ≡ k
  sweep_none f [] a = refl
  sweep_none f (x ∷ xs) a = rw (lt-leb (task k x).deadline k.clock a.0) (sweep_none f xs a.1)

  pub any_none : (xs : List ℕ) → NoneDue k xs → any_due k xs ≡ false
  any_none [] a = refl
  any_none (x ∷ xs) a = rw (lt-leb (task k x).deadline k.clock a.0) (any_none xs a.1)

  pub none_any : (xs : List ℕ) → any_due k xs ≡ false → NoneDue k xs
  none_any [] e = tt
  none_any (x ∷ xs) e = go (none_any xs) (due k x) refl e
    where
      go : (any_due k xs ≡ false → NoneDue k xs) → (b : Bool) → due k x ≡ b → b || any_due k xs ≡ false → NoneDue k (x ∷ xs)
      go rest true z e = absurd (true≢false e)
      go rest false z e = (leb-false (task k x).deadline k.clock z, rest e)

-- Where P holds, f may be done to the first of queue q, if that is due: it goes out of the queue, and P still holds.
pub record Acts (P : Kernel → Type 0) (f : Kernel → ℕ → Kernel) (q : ℕ) : Type 0 where
  pub rising : {k : Kernel} → P k → Rising (deadline_of k) (queue k q)
  pub acts : {k : Kernel} {x : ℕ} {xs : List ℕ} → P k → queue k q ≡ x ∷ xs → (task k x).deadline ≤ k.clock → P (f k x) × (queue (f k x) q ≡ xs)

-- A sweep also keeps what each of its steps keeps.
pub also : {P Q : Kernel → Type 0} {f : Kernel → ℕ → Kernel} {q : ℕ} → Acts P f q
    → ((k : Kernel) (x : ℕ) (xs : List ℕ) → P k → queue k q ≡ x ∷ xs → (task k x).deadline ≤ k.clock → Q k → Q (f k x)) → Acts (λ k. P k × Q k) f q
also h keeps =
    record {
      rising = λ p. h.rising p.0;
      acts = λ {k} {x} {xs} p e due. let n = h.acts p.0 e due in ((n.0, keeps k x xs p.0 e due p.1), n.1);
    }

module _ {P : Kernel → Type 0} {f : Kernel → ℕ → Kernel} {q : ℕ} (h : Acts P f q) where
  pub one_swept : {k : Kernel} {x : ℕ} {xs : List ℕ} → P k → queue k q ≡ x ∷ xs → (task k x).deadline ≤ k.clock → swept f q k ≡ swept f q (f k x)
  one_swept {k} {x} {xs} p e d =
      let one : sweep f k (x ∷ xs) ≡ sweep f (f k x) xs = rw (le-leb (task k x).deadline k.clock d) refl in
      ap (sweep f k) e ∙ one ∙ ap (sweep f (f k x)) (sym (h.acts p e d).1)

  -- Then none is due any more.
  abbrev Done : Kernel → Type 0
  Done k = P k × NoneDue k (queue k q)

  pub all_swept : (k : Kernel) (xs : List ℕ) → P k → queue k q ≡ xs → Done (sweep f k xs)
  all_swept k [] p e = (p, rw e tt)
  all_swept k (x ∷ xs) p e = go (all_swept (f k x) xs) (due k x) refl
    where
      go : (P (f k x) → queue (f k x) q ≡ xs → Done (sweep f (f k x) xs)) → (b : Bool) → due k x ≡ b → Done (sweep f (cond b (f k x) k) xs)
      go rest true z = let n = h.acts p e (leb-true (task k x).deadline k.clock z) in rest n.0 n.1
      go rest false z =
          let none = none_due k e (h.rising p) (leb-false (task k x).deadline k.clock z) in
          subst Done (sym (sweep_none k f xs (rw e at none).1)) (p, none)
