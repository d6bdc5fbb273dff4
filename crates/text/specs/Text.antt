-- Texts and numbers as they are printed, byte for byte. Assumes nothing.
use Rattle.std.specs.Prelude.{◌≡◌, cond, List, [], ◌∷◌, ◌++◌, ℕ, zero, suc, ◌+◌, ◌-◌, ◌*◌, ◌/◌, ◌%◌, ltb, ℤ, pos, negsuc, length, take}
use Prim.Native.String.{String}
use Prim.Native.String.{[] as empty, ◌∷◌ as ◌then◌}
use Prim.Native.Char.{code}

-- The bytes of a text of ASCII characters.
abbrev pub bytes : String → List ℕ
bytes empty = []
bytes (c then s) = code c ∷ bytes s

-- The digits of n, the most significant first and no zero before it, and of a number of more than f + 1 digits the last so many.
unfoldable pub digits : ℕ → ℕ → List ℕ
digits zero n = (48 + n % 10) ∷ []
digits (suc f) n = cond (ltb n 10) ((48 + n) ∷ []) (digits f (n / 10) ++ ((48 + n % 10) ∷ []))

-- A number in decimal. No number of 64 bits has more than 20 digits.
abbrev pub decimal : ℕ → List ℕ
decimal n = digits 19 n

-- Nor is a signed one longer, with its sign.
abbrev pub longest_number : ℕ
longest_number = 20

-- A signed number, with a minus sign where it is below 0.
abbrev pub number : ℤ → List ℕ
number (pos n) = decimal n
number (negsuc n) = bytes "-" ++ decimal (suc n)

-- The number that the digits bs say, behind those that say n.
unfoldable pub value : ℕ → List ℕ → ℕ
value n [] = n
value n (b ∷ bs) = value (n * 10 + (b - 48)) bs

-- Each call prints answer, running task, clock.
abbrev pub printed : ℤ → ℕ → ℕ → List ℕ
printed answer running clock = number answer ++ (bytes " " ++ (decimal running ++ (bytes " " ++ (decimal clock ++ bytes "\n"))))

-- No printed line is longer.
abbrev pub longest_printed : ℕ
longest_printed = 64

-- A buffer held b, and the text that was begun in it was at bytes long. Now it holds b', and that text goes on with these bytes and is n long.
pub record Continued (b : List ℕ) (at : ℕ) (text b' : List ℕ) (n : ℕ) : Type 0 where
  pub ends : n ≡ at + length text
  pub size : length b' ≡ length b
  pub holds : take n b' ≡ take at b ++ text
