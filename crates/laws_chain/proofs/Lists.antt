-- The laws of queues as plain lists: what insertion and removal keep. Assumes nothing.
use mathlib.Core.Path.{◌≡◌, refl, ap, sym}
use mathlib.Core.Logic.{◌⊎◌, inl, inr}
use mathlib.Core.Bool.{Bool, true, false, cond}
use mathlib.Core.List.{List, [], ◌∷◌, ◌++◌}
use Prim.Native.Nat.{ℕ, zero, suc, ◌≤◌, ◌<◌, zero-le}
use native.Mathlib.Omega.{arith}
use lib.ListN.{length, length-append}
use lib.Dec.{leb, eqb}
use borrow.Author.Tests.{eqb-true, eqb-false, leb-true, leb-false, ne_eqb}
use Rattle.laws_chain.specs.Lists.{All, Among, Once, Rising, insert, lead, behind, remove}

-- ---- every element

pub all_of : {P : ℕ → Type 0} → ((x : ℕ) → P x) → (xs : List ℕ) → All P xs
all_of f [] = tt
all_of f (x ∷ xs) = (f x, all_of f xs)

pub all_map : {P Q : ℕ → Type 0} (f : (x : ℕ) → P x → Q x) (xs : List ℕ) → All P xs → All Q xs
all_map f [] a = tt
all_map f (x ∷ xs) a = (f x a.0, all_map f xs a.1)

pub all_zip : {P Q R : ℕ → Type 0} (f : (x : ℕ) → P x → Q x → R x) (xs : List ℕ) → All P xs → All Q xs → All R xs
all_zip f [] a b = tt
all_zip f (x ∷ xs) a b = (f x a.0 b.0, all_zip f xs a.1 b.1)

pub all_left : (P : ℕ → Type 0) (xs ys : List ℕ) → All P (xs ++ ys) → All P xs
all_left P [] ys a = tt
all_left P (x ∷ xs) ys a = (a.0, all_left P xs ys a.1)

pub all_right : (P : ℕ → Type 0) (xs ys : List ℕ) → All P (xs ++ ys) → All P ys
all_right P [] ys a = a
all_right P (x ∷ xs) ys a = all_right P xs ys a.1

pub all_among : (P : ℕ → Type 0) (y : ℕ) (xs : List ℕ) → All P xs → Among y xs → P y
all_among P y [] a m = absurd m
all_among P y (x ∷ xs) a (inl e) = rw e at a.0
all_among P y (x ∷ xs) a (inr m) = all_among P y xs a.1 m

-- i is none of the elements.
abbrev pub Absent : ℕ → List ℕ → Type 0
Absent i xs = All (λ (x : ℕ). i ≡ x → ⊥) xs

pub once_left : (xs ys : List ℕ) → Once (xs ++ ys) → Once xs
once_left [] ys o = tt
once_left (x ∷ xs) ys o = (all_left _ xs ys o.0, once_left xs ys o.1)

pub once_right : (xs ys : List ℕ) → Once (xs ++ ys) → Once ys
once_right [] ys o = o
once_right (x ∷ xs) ys o = once_right xs ys o.1

-- What stands in one part does not stand in the other.
pub once_before : (xs ys : List ℕ) → Once (xs ++ ys) → All (λ (x : ℕ). Absent x ys) xs
once_before [] ys o = tt
once_before (x ∷ xs) ys o = (all_right _ xs ys o.0, once_before xs ys o.1)

pub once_after : (xs ys : List ℕ) → Once (xs ++ ys) → All (λ (y : ℕ). Absent y xs) ys
once_after [] ys o = all_of (λ y. tt) ys
once_after (x ∷ xs) ys o = all_zip (λ y n a. ((λ e. n (sym e)), a)) ys (all_right _ xs ys o.0) (once_after xs ys o.1)

-- The order looks at the deadlines of the elements alone.
pub rising_same : (d e : ℕ → ℕ) (xs : List ℕ) → All (λ (x : ℕ). e x ≡ d x) xs → Rising d xs → Rising e xs
rising_same d e [] a r = tt
rising_same d e (x ∷ xs) a r = (all_zip (λ y s h. let t : e x ≡ d x = a.0 in omega arith) xs a.1 r.0, rising_same d e xs a.1 r.1)

-- ---- one element more

module _ (i : ℕ) (vs : List ℕ) where
  all_more : (P : ℕ → Type 0) (us : List ℕ) → P i → All P (us ++ vs) → All P (us ++ i ∷ vs)
  all_more P [] p a = (p, a)
  all_more P (u ∷ us) p a = (a.0, all_more P us p a.1)

  all_less : (P : ℕ → Type 0) (us : List ℕ) → All P (us ++ i ∷ vs) → All P (us ++ vs)
  all_less P [] a = a.1
  all_less P (u ∷ us) a = (a.0, all_less P us a.1)

  among_here : (us : List ℕ) → Among i (us ++ i ∷ vs)
  among_here [] = inl refl
  among_here (u ∷ us) = inr (among_here us)

  among_more : (x : ℕ) (us : List ℕ) → Among x (us ++ vs) → Among x (us ++ i ∷ vs)
  among_more x [] m = inr m
  among_more x (u ∷ us) (inl e) = inl e
  among_more x (u ∷ us) (inr m) = inr (among_more x us m)

  among_less : (x : ℕ) (us : List ℕ) → (x ≡ i → ⊥) → Among x (us ++ i ∷ vs) → Among x (us ++ vs)
  among_less x [] ne (inl e) = absurd (ne (sym e))
  among_less x [] ne (inr m) = m
  among_less x (u ∷ us) ne (inl e) = inl e
  among_less x (u ∷ us) ne (inr m) = inr (among_less x us ne m)

  once_more : (us : List ℕ) → Absent i (us ++ vs) → Once (us ++ vs) → Once (us ++ i ∷ vs)
  once_more [] a o = (a, o)
  once_more (u ∷ us) a o = (all_more _ us (λ e. a.0 (sym e)) o.0, once_more us a.1 o.1)

  once_less : (us : List ℕ) → Once (us ++ i ∷ vs) → Absent i (us ++ vs) × Once (us ++ vs)
  once_less [] o = o
  once_less (u ∷ us) o =
      let r = once_less us o.1 in
      (((λ e. (all_right _ us (i ∷ vs) o.0).0 (sym e)), r.0), (all_less _ us o.0, r.1))

  rising_less : (d : ℕ → ℕ) (us : List ℕ) → Rising d (us ++ i ∷ vs) → Rising d (us ++ vs)
  rising_less d [] r = r.1
  rising_less d (u ∷ us) r = (all_less _ us r.0, rising_less d us r.1)

-- xs is ys with i at some place.
pub record More (i : ℕ) (xs ys : List ℕ) : Type 0 where
  pub front : List ℕ
  pub back : List ℕ
  pub more : xs ≡ front ++ i ∷ back
  pub less : ys ≡ front ++ back

-- What holds of the one list holds of the other.
module _ {i : ℕ} {xs ys : List ℕ} (m : More i xs ys) where
  pub more_all : (P : ℕ → Type 0) → P i → All P ys → All P xs
  more_all P p a = rw m.more (all_more i m.back P m.front p (rw m.less at a))

  pub less_all : (P : ℕ → Type 0) → All P xs → All P ys
  less_all P a = rw m.less (all_less i m.back P m.front (rw m.more at a))

  pub more_here : Among i xs
  more_here = rw m.more (among_here i m.back m.front)

  pub more_among : (x : ℕ) → Among x ys → Among x xs
  more_among x a = rw m.more (among_more i m.back x m.front (rw m.less at a))

  pub less_among : (x : ℕ) → (x ≡ i → ⊥) → Among x xs → Among x ys
  less_among x ne a = rw m.less (among_less i m.back x m.front ne (rw m.more at a))

  pub more_once : Absent i ys → Once ys → Once xs
  more_once a o = rw m.more (once_more i m.back m.front (rw m.less at a) (rw m.less at o))

  pub less_once : Once xs → Absent i ys × Once ys
  less_once o = rw m.less (once_less i m.back m.front (rw m.more at o))

  pub less_rising : (d : ℕ → ℕ) → Rising d xs → Rising d ys
  less_rising d r = rw m.less (rising_less i m.back d m.front (rw m.more at r))

  more_length : length xs ≡ suc (length ys)
  more_length = omega (arith, simp length-append at (ap length m.more), simp length-append at (ap length m.less))

-- ---- removal

pub removed : (i : ℕ) (xs : List ℕ) → Among i xs → More i xs (remove i xs)
removed i [] m = absurd m
removed i (x ∷ xs) m = go (removed i xs) m (eqb x i) refl
  where
    go : (Among i xs → More i xs (remove i xs)) → Among i (x ∷ xs) → (b : Bool) → eqb x i ≡ b → More i (x ∷ xs) (cond b xs (x ∷ remove i xs))
    go ih m true e = record { front = []; back = xs; more = ap (λ (y : ℕ). y ∷ xs) (eqb-true x i e); less = refl }
    go ih (inl q) false e = absurd (eqb-false x i e q)
    go ih (inr m) false e =
        let r = ih m in
        record { front = x ∷ r.front; back = r.back; more = ap (λ (l : List ℕ). x ∷ l) r.more; less = ap (λ (l : List ℕ). x ∷ l) r.less }

pub remove_absent : (i : ℕ) (xs : List ℕ) → Absent i xs → remove i xs ≡ xs
remove_absent i [] a = refl
remove_absent i (x ∷ xs) a = rw (ne_eqb x i (λ e. a.0 (sym e)), remove) (ap (λ (l : List ℕ). x ∷ l) (remove_absent i xs a.1))

-- ---- insertion

module _ (passes : ℕ → Bool) where
  pub lead_behind : (xs : List ℕ) → xs ≡ lead passes xs ++ behind passes xs
  lead_behind [] = refl
  lead_behind (x ∷ xs) = go (lead_behind xs) (passes x)
    where
      go : xs ≡ lead passes xs ++ behind passes xs → (b : Bool) → x ∷ xs ≡ cond b (x ∷ lead passes xs) [] ++ cond b (behind passes xs) (x ∷ xs)
      go ih true = ap (λ (l : List ℕ). x ∷ l) ih
      go ih false = refl

  pub insert_is : (i : ℕ) (xs : List ℕ) → insert passes i xs ≡ lead passes xs ++ i ∷ behind passes xs
  insert_is i [] = refl
  insert_is i (x ∷ xs) = go (insert_is i xs) (passes x)
    where
      go : insert passes i xs ≡ lead passes xs ++ i ∷ behind passes xs → (b : Bool) → cond b (x ∷ insert passes i xs) (i ∷ x ∷ xs) ≡ cond b (x ∷ lead passes xs) [] ++ i ∷ cond b (behind passes xs) (x ∷ xs)
      go ih true = ap (λ (l : List ℕ). x ∷ l) ih
      go ih false = refl

  abbrev pub inserted : (i : ℕ) (xs : List ℕ) → More i (insert passes i xs) xs
  inserted i xs = record { front = lead passes xs; back = behind passes xs; more = insert_is i xs; less = lead_behind xs }

-- Behind those with a deadline no later than its own, the new one keeps the order.
pub insert_rising : (d : ℕ → ℕ) (passes : ℕ → Bool) (i : ℕ) (xs : List ℕ) → All (λ (x : ℕ). passes x ≡ leb (d x) (d i)) xs → Rising d xs → Rising d (insert passes i xs)
insert_rising d passes i [] a r = (tt, tt)
insert_rising d passes i (x ∷ xs) a r = go (insert_rising d passes i xs a.1 r.1) (passes x) a.0
  where
    go : Rising d (insert passes i xs) → (b : Bool) → b ≡ leb (d x) (d i) → Rising d (cond b (x ∷ insert passes i xs) (i ∷ x ∷ xs))
    go ih true e = (more_all (inserted passes i xs) (λ (y : ℕ). d x ≤ d y) (leb-true (d x) (d i) (sym e)) r.0, ih)
    go ih false e = let g : d i < d x = leb-false (d x) (d i) (sym e) in ((omega arith, all_map (λ y h. omega arith) xs r.0), r)

-- ---- no more elements than numbers

some_or_none : (i : ℕ) (xs : List ℕ) → Among i xs ⊎ Absent i xs
some_or_none i [] = inr tt
some_or_none i (x ∷ xs) = go (eqb x i) refl (some_or_none i xs)
  where
    go : (b : Bool) → eqb x i ≡ b → Among i xs ⊎ Absent i xs → Among i (x ∷ xs) ⊎ Absent i (x ∷ xs)
    go true e r = inl (inl (eqb-true x i e))
    go false e (inl m) = inl (inr m)
    go false e (inr a) = inr ((λ q. eqb-false x i e (sym q)), a)

-- Once each and all below n, they are at most n.
pub at_most : (n : ℕ) (xs : List ℕ) → Once xs → All (λ (x : ℕ). x < n) xs → length xs ≤ n
at_most zero [] o a = zero-le
at_most zero (x ∷ xs) o a = let h : x < 0 = a.0 in absurd (omega arith)
at_most (suc n) xs o a = go (at_most n) (some_or_none n xs)
  where
    lower : (ys : List ℕ) → Absent n ys → All (λ (x : ℕ). x < suc n) ys → All (λ (x : ℕ). x < n) ys
    lower ys b l = all_zip (λ y ne h. let z : y ≡ n → ⊥ = λ e. ne (sym e) in omega arith) ys b l

    go : ((ys : List ℕ) → Once ys → All (λ (x : ℕ). x < n) ys → length ys ≤ n) → Among n xs ⊎ Absent n xs → length xs ≤ suc n
    go ih (inl m) =
        let r = removed n xs m in
        let w = less_once r o in
        omega (arith, more_length r, ih (remove n xs) w.1 (lower (remove n xs) w.0 (less_all r (λ (x : ℕ). x < suc n) a)))
    go ih (inr b) = omega (arith, ih xs o (lower xs b a))
