-- A queue as a chain through a table of n tasks: a link is a task's number, and -1 at the end. Assumes nothing.
use Rattle.std.specs.Prelude.{◌≡◌, Bool, true, false, List, [], ◌∷◌, ℕ, zero, suc, ◌<◌, ℤ, pos, negsuc, ltb}
use Rattle.laws_chain.specs.Lists.{lead, behind}

-- The link at the ends, -1.
abbrev pub end : ℤ
end = negsuc 0

-- The link to the first of a list, and `tail` where there is none.
abbrev pub start : ℤ → List ℕ → ℤ
start tail [] = tail
start tail (x ∷ xs) = pos x

-- The link to the last of a list, and `back` where there is none.
abbrev pub finish : ℤ → List ℕ → ℤ
finish back [] = back
finish back (x ∷ xs) = finish (pos x) xs

-- From the link `head` on, by the next links, stand the tasks of the list, and then comes the link `tail`. The previous link of the
-- first of them is `back`, and that of each other leads to the task before it.
abbrev pub Stretch : ℕ → (ℕ → ℤ) → (ℕ → ℤ) → ℤ → ℤ → ℤ → List ℕ → Type 0
Stretch n next previous tail back head [] = head ≡ tail
Stretch n next previous tail back head (x ∷ xs) =
    (x < n) × (head ≡ pos x) × (previous x ≡ back) × Stretch n next previous tail (pos x) (next x) xs

-- The links from `head` on hold just the tasks of the list, in its order, and are mutual.
pub record Chain (n : ℕ) (next previous : ℕ → ℤ) (head : ℤ) (xs : List ℕ) : Type 0 where
  pub whole : Stretch n next previous end end head xs

-- The links on both sides of the place of a task that passes the elements at the front.
pub record Gap (passes : ℕ → Bool) (xs : List ℕ) (before after : ℤ) : Type 0 where
  pub before_is : before ≡ finish end (lead passes xs)
  pub after_is : after ≡ start end (behind passes xs)

-- The task that a link leads to, and n where it leads to none.
abbrev pub target : ℕ → ℤ → ℕ
target n (pos x) = x
target n (negsuc m) = n

-- The tasks met from the link `head` on, whatever the links are, and at most `most` of them.
unfoldable pub walk : ℕ → (ℕ → ℤ) → ℕ → ℤ → List ℕ
walk n next zero head = []
walk n next (suc most) head =
    elim (ltb (target n head) n) [
      | true ↦ target n head ∷ walk n next most (next (target n head))
      | false ↦ []
    ]
