-- A program whose input is cut in pieces, lines or blocks: each piece has a turn, and what is printed is a function of the bytes that are read. Assumes nothing.
use Rattle.std.specs.Prelude.{Bool, cond, List, [], ◌∷◌, ◌++◌, ℕ, ◌+◌, eqb, ltb, length}

-- A block has 512 bytes, and no line that is longer means anything.
abbrev pub longest : ℕ
longest = 512

-- ---- pieces

-- A line ends at each newline; a block where it has 512 bytes.
pub data Cut : Type 0 where
  lines : Cut
  blocks : Cut

-- Whether the byte b ends the piece of which these bytes are begun.
abbrev pub ends : Cut → List ℕ → ℕ → Bool
ends lines begun b = eqb b 10
ends blocks begun b = eqb (length begun + 1) longest

-- The piece that it ends: a newline is no part of its line.
abbrev pub ended : Cut → List ℕ → ℕ → List ℕ
ended lines begun b = begun
ended blocks begun b = begun ++ (b ∷ [])

-- The end of the input ends the piece that is begun, if one is.
abbrev pub last : List ℕ → List (List ℕ)
last [] = []
last (b ∷ bs) = (b ∷ bs) ∷ []

-- The pieces of an input of which these bytes are begun already.
unfoldable pub pieces_from : Cut → List ℕ → List ℕ → List (List ℕ)
pieces_from c begun [] = last begun
pieces_from c begun (b ∷ bs) = cond (ends c begun b) (ended c begun b ∷ pieces_from c [] bs) (pieces_from c (begun ++ (b ∷ [])) bs)

abbrev pub pieces : Cut → List ℕ → List (List ℕ)
pieces c input = pieces_from c [] input

-- The index behind i, of pieces or of what stands in them, as far as 64 bits count.
abbrev pub highest : ℕ
highest = 18446744073709551615

abbrev pub next_index : ℕ → ℕ
next_index i = cond (ltb i highest) (i + 1) i

-- ---- programs

-- What a piece comes to: the state then, and what is printed.
pub record Turned (S : Type 0) : Type 0 where
  pub state : S
  pub text : List ℕ

-- A program: how its input is cut, what it prints first, the state that it starts in, the turn of each piece, and what it prints last.
pub record Program : Type 1 where
  pub State : Type 0
  pub cut : Cut
  pub title : List ℕ
  pub start : State
  pub turn : List ℕ → State → Turned State
  pub finish : State → List ℕ

-- What pieces print, one behind the other, and then the end.
unfoldable pub prints : (p : Program) → List (List ℕ) → p.State → List ℕ
prints p [] s = p.finish s
prints p (x ∷ xs) s = (p.turn x s).text ++ prints p xs (p.turn x s).state

-- All that is printed.
unfoldable pub output : Program → List ℕ → List ℕ
output p input = p.title ++ prints p (pieces p.cut input) p.start
