-- Whether one of the tasks has a session that holds a buffer, sought from the first on. Assumes nothing.
use mathlib.Core.Path.{◌≡◌, refl, sym, ◌∙◌}
use mathlib.Core.Bool.{Bool, true, false, ◌||◌, or-true}
use mathlib.Core.List.{List}
use Prim.Native.Nat.{ℕ, zero, suc, ◌<◌}
use native.Mathlib.Omega.{arith}
use native.Mathlib.Decide.{dec_lt}
use Rattle.std.specs.Bool.{MatchBool}
use Rattle.kernel.specs.declared.Session.{Session}
use Rattle.kernel.specs.Sizes.{task_count}
use Rattle.kernel.specs.Kernel.{Kernel, session}
use Rattle.kernel.specs.Channels.{reads, writes, some_session}
use Rattle.kernel.specs.Seen.{seen}

abbrev holds : ℕ → Session → Bool
holds b z = reads b z || writes b z

-- One that has is enough.
found : (p : Session → Bool) (k : Kernel) (c t : ℕ) → p (session k c t) ≡ true → (n : ℕ) → t < n → some_session p n k c ≡ true
unfolding some_session
found p k c t has zero l = absurd (omega arith)
found p k c t has (suc n) l = go (dec_lt t n) (found p k c t has n)
  where
    go : Dec (t < n) → (t < n → some_session p n k c ≡ true) → p (session k c n) || some_session p n k c ≡ true
    go (yes h) earlier = rw (earlier h) (or-true (p (session k c n)))
    go (no h) earlier = let last : n ≡ t = omega arith in rw (last, has) refl

-- One of two kinds, or of the other.
either : (n : ℕ) (p q : Session → Bool) (k : Kernel) (c : ℕ) → some_session (λ z. p z || q z) n k c ≡ some_session p n k c || some_session q n k c
unfolding some_session
either zero p q k c = refl
either (suc n) p q k c = rw (either n p q k c) (regroup (p (session k c n)) (q (session k c n)) (some_session p n k c) (some_session q n k c))
  where
    regroup : (a b x y : Bool) → (a || b) || (x || y) ≡ (a || x) || (b || y)
    regroup true b x y = refl
    regroup false true true y = refl
    regroup false true false y = refl
    regroup false false x y = refl

-- None that has is too few.
none : (p : Session → Bool) (k : Kernel) (c n : ℕ) → ((t : ℕ) → t < n → p (session k c t) ≡ true → ⊥) → some_session p n k c ≡ false
unfolding some_session
none p k c zero not = refl
none p k c (suc n) not = go (p (session k c n)) refl (none p k c n (λ t l. not t (omega arith)))
  where
    go : (b : Bool) → p (session k c n) ≡ b → some_session p n k c ≡ false → b || some_session p n k c ≡ false
    go true e ih = absurd (not n (omega arith) e)
    go false e ih = ih

pub some_holds : (w : List ℕ) (c b : ℕ) (r : Bool) → MatchBool r ((t : ℕ) × (t < task_count) × (holds b (session (seen w) c t) ≡ true)) ((t : ℕ) → t < task_count → holds b (session (seen w) c t) ≡ true → ⊥)
    → r ≡ some_session (reads b) task_count (seen w) c || some_session (writes b) task_count (seen w) c
some_holds w c b true h = sym (found (holds b) (seen w) c h.0 h.2 task_count h.1) ∙ either task_count (reads b) (writes b) (seen w) c
some_holds w c b false h = sym (none (holds b) (seen w) c task_count h) ∙ either task_count (reads b) (writes b) (seen w) c
