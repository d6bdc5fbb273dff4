-- A line cut at its first space. Assumes nothing.
use mathlib.Core.Path.{◌≡◌, refl, ap}
use mathlib.Core.Bool.{Bool, true, false, cond}
use mathlib.Core.List.{List, [], ◌∷◌, ◌++◌}
use Prim.Native.Nat.{ℕ, suc, ◌+◌, ◌-◌, ◌<◌}
use native.Mathlib.Numerals.{add-one}
use native.Mathlib.Omega.{arith}
use lib.Dec.{eqb}
use lib.ListN.{length, take, drop, get_or, length-drop, length-append}
use lib.Seq.{take_all, split_at, take-append_seam, drop-append-add}
use borrow.Author.Tests.{lt-ltb, ltb-true, eqb-true}
use Rattle.std.proofs.Common.{Option, Some, None, ◌==◌, not, sym, ◌∙◌}
use Rattle.std.proofs.lemmas.Option.{cond_some}
use Rattle.std.specs.List.{position, position_or_len}
use Rattle.verbs.specs.declared.Verb.{Verb}
use Rattle.language.specs.Meaning.{index_of, index_after, space, before, behind, has_space}

-- The code seeks the space so.
index_is : (l : List ℕ) → position_or_len (λ b. b == 32) l ≡ space l
unfolding index_of index_after
index_is [] = refl
index_is (x ∷ xs) = elim (eqb x 32) as (λ t. cond (not t) (1 + position_or_len (λ b. b == 32) xs) 0 ≡ index_after t (space xs)) [ true ↦ refl | false ↦ rw (index_is xs) (omega arith) ]

spaced : (l : List ℕ) → position (λ b. b == 32) l ≡ cond (has_space l) (Some (space l)) None
spaced l = rw (index_is l)

module _ (l : List ℕ) where
  pub uncut : None ≡ position (λ b. b == 32) l → has_space l ≡ false
  uncut e = go (has_space l) (e ∙ spaced l)
    where
      go : (t : Bool) → None ≡ cond t (Some (space l)) None → t ≡ false
      go true none = cc
      go false none = refl

  pub cut : (k : ℕ) → Some k ≡ position (λ b. b == 32) l → (has_space l ≡ true) × (take k l ≡ before l) × (take (length l - (k + 1)) (drop (k + 1) l) ≡ behind l)
  cut k e =
      let found = cond_some (has_space l) (space l) k (sym (e ∙ spaced l)) in
      (found.0, rw found.1, rw found.1 (take_all (length l - (k + 1)) (drop (k + 1) l) (rw length-drop (omega arith))))

-- Where a space stands.
a_space : (l : List ℕ) → space l < length l → get_or l (space l) 0 ≡ 32
unfolding index_of index_after
a_space [] h = absurd (omega arith)
a_space (x ∷ xs) h = go (eqb x 32) refl h (a_space xs)
  where
    go
        : (t : Bool)
        → eqb x 32 ≡ t
        → index_after t (space xs) < suc (length xs)
        → (space xs < length xs → get_or xs (space xs) 0 ≡ 32)
        → get_or (x ∷ xs) (index_after t (space xs)) 0 ≡ 32
    go true e k more = eqb-true x 32 e
    go false e k more = more (omega arith)

pub joined : (l : List ℕ) → has_space l ≡ true → l ≡ before l ++ (32 ∷ behind l)
joined l e =
    let h : space l < length l = ltb-true (space l) (length l) e in
    rw add-one (rw (a_space l h) at (split_at l (space l) 0 h))

-- A word without a space.
abbrev pub Word : List ℕ → Type 0
Word w = space w ≡ length w

word_then : (w r : List ℕ) → Word w → space (w ++ (32 ∷ r)) ≡ length w
unfolding index_of index_after
word_then [] r h = refl
word_then (x ∷ w) r h = go (eqb x 32) h (word_then w r)
  where
    go
        : (t : Bool)
        → index_after t (space w) ≡ suc (length w)
        → (Word w → space (w ++ (32 ∷ r)) ≡ length w)
        → index_after t (space (w ++ (32 ∷ r))) ≡ suc (length w)
    go true e more = absurd (omega arith)
    go false e more = ap suc (more (omega arith))

pub cut_behind
    : (w r : List ℕ) → Word w → (f : List ℕ → List ℕ → Option Verb) (y : Option Verb)
    → cond (has_space (w ++ (32 ∷ r))) (f (before (w ++ (32 ∷ r))) (behind (w ++ (32 ∷ r)))) y ≡ f w r
cut_behind w r h f y =
    let inside : length w < length (w ++ (32 ∷ r)) = rw length-append (omega arith) in
    rw (word_then w r h, lt-ltb (length w) (length (w ++ (32 ∷ r))) inside, take-append_seam w (32 ∷ r), drop-append-add w (32 ∷ r) 1)
