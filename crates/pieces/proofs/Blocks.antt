-- A whole block that is read is a piece, whatever stands behind it. Assumes nothing.
use mathlib.Core.Path.{◌≡◌, ap, ◌∙◌}
use mathlib.Core.List.{List, [], ◌∷◌, ◌++◌, append_assoc}
use Prim.Native.Nat.{ℕ, ◌+◌, ◌<◌}
use native.Mathlib.Omega.{arith}
use lib.ListN.{length, length-append}
use borrow.Author.Tests.{eq-eqb, ne_eqb}
use Rattle.pieces.specs.Program.{longest, blocks, pieces_from}

-- The bytes b go on with the block that is begun, and end it.
pub block_ends : (begun b rest : List ℕ) → length begun < longest → length begun + length b ≡ longest
    → pieces_from blocks begun (b ++ rest) ≡ (begun ++ b) ∷ pieces_from blocks [] rest
unfolding pieces_from
block_ends begun [] rest part whole = absurd (omega arith)
block_ends begun (x ∷ []) rest part whole = rw (eq-eqb (length begun + 1) longest (omega arith))
block_ends begun (x ∷ y ∷ b) rest part whole =
    let size : length (begun ++ (x ∷ [])) ≡ length begun + 1 = length-append begun (x ∷ []) in
    rw (ne_eqb (length begun + 1) longest (omega arith))
    (block_ends (begun ++ (x ∷ [])) (y ∷ b) rest (omega arith) (omega arith)
    ∙ ap (λ (p : List ℕ). p ∷ pieces_from blocks [] rest) (append_assoc begun (x ∷ []) (y ∷ b)))
