-- Numbers as bytes, the most significant first, in any width. Assumes nothing.
use Rattle.std.specs.Prelude.{List, [], ◌∷◌, ◌++◌, ℕ, zero, suc, ◌+◌, ◌*◌, ◌/◌, ◌%◌, take, drop}

-- The number that bytes say behind others that say n.
unfoldable pub from : ℕ → List ℕ → ℕ
from n [] = n
from n (b ∷ bs) = from (n * 256 + b) bs

-- The number that bytes say.
abbrev pub value : List ℕ → ℕ
value bs = from 0 bs

-- A number in so many bytes; of one that has no room the last so many.
unfoldable pub bytes : ℕ → ℕ → List ℕ
bytes zero n = []
bytes (suc k) n = bytes k (n / 256) ++ (n % 256 ∷ [])

-- So many bytes from a place on.
abbrev pub part : ℕ → ℕ → List ℕ → List ℕ
part at n bs = take n (drop at bs)
