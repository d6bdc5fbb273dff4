-- One exchange with C, and a program as exchanges one behind the other. No contract can say what C does: its answers are named here, and the rest follows from them. Assumes nothing.
use Rattle.std.specs.Prelude.{◌≡◌, Bool, true, false, ◌&&◌, List, [], ◌∷◌, ◌++◌, ◌⊎◌, ℕ, ◌≤◌, ltb, ℤ, length, take}
use Rattle.io.specs.Counts.{clamp_len}
use Rattle.kernel.specs.Fresh.{fresh_words}
use Rattle.programs.specs.declared.Program.{Program}
use Rattle.programs.specs.Programs.{model, Desk, start, desk, Reads, Ends}
use Rattle.console.specs.declared.Response.{Response}
use Rattle.console.specs.declared.Between.{Between}
use Rattle.console.specs.declared.Ending.{Ending}

-- No more bytes are read at once.
abbrev pub longest_block : ℕ
longest_block = 8192

-- How many bytes came, where C answered `got` to a read and left these bytes in the block: none, if the read failed.
abbrev pub count : (got : ℤ) (block : List ℕ) → ℕ
count got block = clamp_len got (length block)

-- The bytes that came.
abbrev pub came : (got : ℤ) (block : List ℕ) → List ℕ
came got block = take (count got block) block

-- ---- what is made of C's answers

-- The bytes were read from where the program stood on: all of them, where C took all that it was handed. The text is what they print, and C was handed as many bytes. That those were the text's is read in `respond`: no contract says what C is handed.
pub record Responds (p : Program) (bytes : List ℕ) (d d' : Desk) (r : Response) : Type 0 where
  pub text : List ℕ
  pub within : r.read ≤ length bytes
  pub reads : Reads p (take r.read bytes) d d' text
  pub handed : r.printed ≡ length text
  pub all : r.whole ≡ true → r.read ≡ length bytes

-- The program stands where the bytes left it, and a further exchange follows exactly where a byte came and C took all that it was handed.
abbrev pub stands : (came : ℕ) → Response → Between
stands came r = record { at = r.at; printed = r.printed; further = ltb 0 came && r.whole }

-- ---- the exchanges

-- What C answered in one exchange: to the read, with these bytes in the block, and whether it took all that it was then handed; and how many of the bytes that came were read.
pub record Answers : Type 0 where
  pub got : ℤ
  pub block : List ℕ
  pub whole : Bool
  pub read : ℕ

-- The bytes that were read.
abbrev pub taken : Answers → List ℕ
taken a = take a.read (came a.got a.block)

-- One exchange, from one desk to the next, with these answers: the text is what the bytes that were read print, and C was handed as many bytes.
pub record Exchange (p : Program) (d : Desk) (next : Between) (d' : Desk) (block : List ℕ) : Type 0 where
  pub got : ℤ
  pub whole : Bool
  pub read : ℕ
  pub text : List ℕ
  pub within : read ≤ count got block
  pub reads : Reads p (take read (came got block)) d d' text
  pub handed : next.printed ≡ length text
  pub all : whole ≡ true → read ≡ count got block
  pub further : next.further ≡ ltb 0 (count got block) && whole

-- Exchange behind exchange, the oldest first, from the fresh words, no piece and the title on. The first follows if C took all of the title, each other if the one before it says so, and from where that one left off. The text is all that was to be printed in them.
pub data Exchanges (p : Program) (titled : Bool) : List Answers → Between → Desk → (text : List ℕ) → Type 0 where
  none : {w block piece : List ℕ} {n : ℕ} → w ≡ fresh_words → n ≡ length (model p).title
      → Exchanges p titled [] (record { at = start; printed = n; further = titled }) (desk w block start piece) []
  one_more : {answers : List Answers} {at next : Between} {d d' : Desk} {text block : List ℕ} → Exchanges p titled answers at d text → at.further ≡ true
      → (e : Exchange p d next d' block)
      → Exchanges p titled (answers ++ (record { got = e.got; block = block; whole = e.whole; read = e.read } ∷ [])) next d' (text ++ e.text)

-- No program has more exchanges.
abbrev pub most_exchanges : ℕ
most_exchanges = 18446744073709551615

-- A whole program: C's answers to the title and in each exchange, what was kept then, and all that was to be printed. It ended where no exchange follows, and printed last what is due at the end of the input.
pub record Ran (p : Program) (r : Ending) : Type 0 where
  pub titled : Bool
  pub answers : List Answers
  pub left : Desk
  pub text : List ℕ
  pub exchanges : Exchanges p titled answers r.at left text
  pub over : (r.at.further ≡ false) ⊎ (length answers ≡ most_exchanges)
  pub last : Ends p left (take r.printed r.paper)

-- ---- what holds of every program

-- All bytes that were read, and all that came.
unfoldable pub input : List Answers → List ℕ
input [] = []
input (a ∷ answers) = taken a ++ input answers

unfoldable pub all_came : List Answers → List ℕ
all_came [] = []
all_came (a ∷ answers) = came a.got a.block ++ all_came answers

-- All that is to be printed: the title first, and what is due at the end of the input last.
abbrev pub printed : {p : Program} {r : Ending} → Ran p r → List ℕ
printed {p} {r} h = (model p).title ++ (h.text ++ take r.printed r.paper)

-- Why no exchange follows: C did not take all of the title; or in the last one no byte came, or C did not take all that it was handed.
pub data Stopped (titled : Bool) : List Answers → Type 0 where
  untitled : titled ≡ false → Stopped titled []
  no_byte : (before : List Answers) (a : Answers) → count a.got a.block ≡ 0 → Stopped titled (before ++ (a ∷ []))
  not_taken : (before : List Answers) (a : Answers) → a.whole ≡ false → Stopped titled (before ++ (a ∷ []))
