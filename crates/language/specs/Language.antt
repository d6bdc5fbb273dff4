-- The language of scripts: which lines spell which call. Assumes nothing.
use Rattle.std.specs.Prelude.{◌≡◌, List, [], ◌∷◌, ◌++◌, ℕ, ◌≤◌, length}
use Prim.Native.String.{String}
use Rattle.kernel.specs.Calls.{Verb, tick, create_hard, create_nrt, activate, sleep, cycle, end, kill, new_semaphore, delete, wait, signal, Call, verb, question, on_channel}
use Rattle.text.specs.Text.{bytes, value}

-- The bytes of the characters 0 to 9.
abbrev pub Digit : ℕ → Type 0
Digit b = (48 ≤ b) × (b ≤ 57)

abbrev pub Digits : List ℕ → Type 0
Digits [] = Unit
Digits (b ∷ bs) = Digit b × Digits bs

-- A decimal has 1 to 10 digits. Leading zeros are digits.
pub record Decimal (ds : List ℕ) (n : ℕ) : Type 0 where
  pub digits : Digits ds
  pub some : 1 ≤ length ds
  pub most : length ds ≤ 10
  pub is : value 0 ds ≡ n

-- A verb alone.
abbrev pub Alone : String → List ℕ → Type 0
Alone v line = line ≡ bytes v

-- A verb, one space and a decimal.
pub record With (v : String) (n : ℕ) (line : List ℕ) : Type 0 where
  pub first : List ℕ
  pub number : Decimal first n
  pub spelt : line ≡ bytes v ++ (bytes " " ++ first)

-- A verb and two decimals, one space before each.
pub record WithTwo (v : String) (m n : ℕ) (line : List ℕ) : Type 0 where
  pub first : List ℕ
  pub second : List ℕ
  pub number : Decimal first m
  pub other : Decimal second n
  pub spelt : line ≡ bytes v ++ (bytes " " ++ (first ++ (bytes " " ++ second)))

-- The lines that spell a verb's call.
unfoldable pub SpellsVerb : Verb → List ℕ → Type 0
SpellsVerb tick line = Alone "tick" line
SpellsVerb (create_hard p c) line = WithTwo "hard" p c line
SpellsVerb (create_nrt p) line = With "nrt" p line
SpellsVerb (activate n) line = With "activate" n line
SpellsVerb sleep line = Alone "sleep" line
SpellsVerb cycle line = Alone "cycle" line
SpellsVerb end line = Alone "end" line
SpellsVerb (kill n) line = With "kill" n line
SpellsVerb (new_semaphore n) line = With "newsem" n line
SpellsVerb (delete n) line = With "delsem" n line
SpellsVerb (wait n) line = With "wait" n line
SpellsVerb (signal n) line = With "signal" n line

-- The lines that spell a call. No line spells a question or a call on a channel.
abbrev pub Spells : Call → List ℕ → Type 0
Spells (verb v) line = SpellsVerb v line
Spells (question q) line = ⊥
Spells (on_channel a) line = ⊥
