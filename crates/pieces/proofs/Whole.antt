-- No byte of an input is lost where it is cut into blocks. Assumes nothing.
use mathlib.Core.Path.{◌≡◌, refl, ap, ◌∙◌}
use mathlib.Core.List.{List, [], ◌∷◌, ◌++◌, append_assoc}
use Prim.Native.Nat.{ℕ}
use Rattle.kernel.proofs.Decided.{either}
use Rattle.pieces.specs.Program.{blocks, ends, pieces_from, pieces}

abbrev pub joined : List (List ℕ) → List ℕ
joined [] = []
joined (x ∷ xs) = x ++ joined xs

from : (begun input : List ℕ) → joined (pieces_from blocks begun input) ≡ begun ++ input
unfolding pieces_from
from [] [] = refl
from (b ∷ bs) [] = refl
from begun (b ∷ bs) =
    let on = append_assoc begun (b ∷ []) bs in
    either (λ (xs : List (List ℕ)). joined xs ≡ begun ++ (b ∷ bs)) (ends blocks begun b)
    (λ t. ap (λ (x : List ℕ). (begun ++ (b ∷ [])) ++ x) (from [] bs) ∙ on)
    (λ t. from (begun ++ (b ∷ [])) bs ∙ on)

-- **whole_input**: the blocks of an input, one behind the other, are the input; the last may be a part of one.
pub whole_input : (input : List ℕ) → joined (pieces blocks input) ≡ input
whole_input input = from [] input
