-- An input that is read byte by byte, in whatever parts it comes. Assumes nothing.
use Rattle.std.specs.Prelude.{◌≡◌, cond, List, [], ◌∷◌, ◌++◌, ℕ, ◌≤◌, ◌<◌, length, take}
use Rattle.text.specs.Text.{Continued}
use Rattle.pieces.specs.Program.{longest, Cut, lines, blocks, ends, ended, last, Program, prints}

-- Where the reading stands: the program's state, and the bytes of the piece that is begun.
pub record Place (p : Program) : Type 0 where
  pub state : p.State
  pub begun : List ℕ

-- Where it stands behind some bytes, and what they printed.
pub record Read (p : Program) : Type 0 where
  pub place : Place p
  pub text : List ℕ

abbrev pub at_start : (p : Program) → Place p
at_start p = record { state = p.start; begun = [] }

-- A byte ends the piece that is begun, or goes on with it.
unfoldable pub piece_ends : (p : Program) → ℕ → Place p → Read p
piece_ends p b x =
    let t = p.turn (ended p.cut x.begun b) x.state in
    record { place = record { state = t.state; begun = [] }; text = t.text }

unfoldable pub goes_on : (p : Program) → ℕ → Place p → Read p
goes_on p b x = record { place = record { state = x.state; begun = x.begun ++ (b ∷ []) }; text = [] }

unfoldable pub byte : (p : Program) → ℕ → Place p → Read p
byte p b x = cond (ends p.cut x.begun b) (piece_ends p b x) (goes_on p b x)

unfoldable pub read : (p : Program) → List ℕ → Place p → Read p
read p [] x = record { place = x; text = [] }
read p (b ∷ bs) x = let y = byte p b x in let z = read p bs y.place in record { place = z.place; text = y.text ++ z.text }

-- What the end of the input prints.
abbrev pub rest : (p : Program) → Place p → List ℕ
rest p x = prints p (last x.begun) x.state

-- ---- the code's side: what it keeps is in a relation to a place

-- From what is kept as k, these bytes bring it to k' and print the text.
abbrev pub Reads : (p : Program) (K : Type 0) → (K → Place p → Type 0) → List ℕ → K → K → List ℕ → Type 0
Reads p K R bytes k k' text = (x : Place p) → R k x → R k' (read p bytes x).place × (text ≡ (read p bytes x).text)

-- The code kept k, and a piece had its turn: now it keeps k', and a text was put on the paper behind so many bytes. Both are the model's, whatever state k keeps.
pub record Taken (p : Program) (K : Type 0) (R : K → p.State → Type 0) (piece : List ℕ) (k k' : K) (paper : List ℕ) (at : ℕ) (paper' : List ℕ) (n : ℕ) : Type 0 where
  pub text : List ℕ
  pub put : Continued paper at text paper' n
  pub short : length text ≤ longest
  pub keeps : (s : p.State) → R k s → R k' (p.turn piece s).state
  pub prints : (s : p.State) → R k s → text ≡ (p.turn piece s).text

-- The end was printed.
pub record Finished (p : Program) (K : Type 0) (R : K → p.State → Type 0) (k : K) (paper : List ℕ) (at : ℕ) (paper' : List ℕ) (n : ℕ) : Type 0 where
  pub text : List ℕ
  pub put : Continued paper at text paper' n
  pub short : length text ≤ longest
  pub prints : (s : p.State) → R k s → text ≡ p.finish s

-- The first n bytes of a buffer are a piece; only a line can be longer than the buffer, and of one that is nothing else is known.
pub record InBuffer (c : Cut) (buffer : List ℕ) (n : ℕ) (piece : List ℕ) : Type 0 where
  pub whole : n ≤ longest → piece ≡ take n buffer
  pub long : longest < n → (c ≡ lines) × (longest < length piece)

-- They are a piece that is begun: a block that is begun is not full.
pub record Begun (c : Cut) (buffer : List ℕ) (n : ℕ) (begun : List ℕ) : Type 0 where
  pub held : InBuffer c buffer n begun
  pub part : c ≡ blocks → n < longest

-- The piece that was begun is longer by b.
abbrev pub Longer : Cut → List ℕ → ℕ → ℕ → List ℕ → ℕ → Type 0
Longer c buffer n b buffer' n' = (begun : List ℕ) → Begun c buffer n begun → InBuffer c buffer' n' (begun ++ (b ∷ []))
